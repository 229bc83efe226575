use Rattle.std.proofs.Common.{◌≤◌, List, ℕ, length, sym, subst}
use Rattle.std.specs.List.{All}
use Rattle.iso_affected.proofs.FateLemmas.{gone-few, gone-nodes}
use Rattle.iso_affected.specs.Fates.{IsNode}
use Rattle.iso_plan.specs.RowView.{tree_of}
use Rattle.iso_affected.proofs.counts.count.Goals as goal

pub tests_among-requires-clause-nodes : goal.tests_among-requires-clause-nodes
tests_among-requires-clause-nodes c =
    let old = tree_of c.args.old.now in
    subst (All (IsNode old)) (sym c.requires.gone) (gone-nodes old (tree_of c.args.new.now))

pub tests_among-requires-clause-few : goal.tests_among-requires-clause-few
tests_among-requires-clause-few c =
    let old = tree_of c.args.old.now in
    subst (λ (ns : List ℕ). length ns ≤ length old) (sym c.requires.gone) (gone-few old (tree_of c.args.new.now))
