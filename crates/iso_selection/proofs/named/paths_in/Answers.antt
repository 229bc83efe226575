use Rattle.std.proofs.Common.{take, map, ap, sym, subst, arith}
use Rattle.iso_model.specs.NameSets.{Knows}
use Rattle.iso_selection.proofs.NamedLemmas.{wishes-more}
use Rattle.iso_selection.specs.Wishes.{paths_in, wish_of}
use Rattle.iso_selection.proofs.named.paths_in.Goals as goal

pub wanted-preserved : goal.wanted-preserved
wanted-preserved c =
    let i = c.wanted.wish-index in
    let wanted = c.args.wanted.now in
    subst (Knows c.add_path.new.asked) (ap paths_in (sym (wishes-more wanted i _ (omega arith)))) (c.in_ok-add_path.ensures (take i (map wish_of wanted)) c.wanted.invariant)
