use Rattle.std.proofs.Common.{ℕ, List, Bor, take, ap, sym, subst, ◌∙◌, arith}
use Rattle.std.proofs.lemmas.List.{map_push, take_more}
use Rattle.iso_model.specs.NameSets.{Knows}
use Rattle.iso_plan.specs.KeptNodes.{texts_of}
use Rattle.iso_plan.proofs.kept_nodes.set_of.Goals as goal

pub texts-preserved : goal.texts-preserved
texts-preserved c =
    let i = c.texts.text-index in
    let only = c.args.only.now in
    let before = texts_of (take i only) in
    let claimed = c.in_ok-claim.ensures before c.texts.invariant in
    subst (Knows c.claim.new.seen) (sym (ap texts_of (take_more only i _ (omega arith)) ∙ map_push (λ (t : Bor (List ℕ)). t.now) (take i only) _)) claimed.1
