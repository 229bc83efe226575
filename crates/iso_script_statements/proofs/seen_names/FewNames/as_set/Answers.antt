use Rattle.std.proofs.Common.{ℕ, List, Bor, take, ap, sym, subst, ◌∙◌, arith}
use Rattle.std.proofs.lemmas.List.{map_push, take_more}
use Rattle.iso_model.specs.NameSets.{Knows}
use Rattle.iso_script_statements.specs.SeenNames.{texts_in}
use Rattle.iso_script_statements.proofs.seen_names.FewNames.as_set.Goals as goal

pub names-preserved : goal.names-preserved
names-preserved c =
    let i = c.names.name-index in
    let all = c.args.self.now.names.items in
    let claimed = rw c.as_slice-name-items.ensures.value at (c.in_ok-claim.ensures (texts_in (take i all)) c.names.invariant) in
    subst (Knows c.claim.new.seen) (sym (ap texts_in (take_more all i _ (omega arith)) ∙ map_push (λ (t : Bor (List ℕ)). t.now) (take i all) _)) claimed.1
