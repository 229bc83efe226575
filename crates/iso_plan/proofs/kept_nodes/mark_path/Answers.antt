use Rattle.std.proofs.Common.{◌≡◌, ◌<◌, ◌||◌, ℕ, List, false, get_or, map, ap, sym, ◌∙◌, arith}
use Rattle.std.proofs.lemmas.List.{length-set}
use Rattle.iso_plan.proofs.ColumnLemmas.{parent-at}
use Rattle.iso_plan.proofs.KeptLemmas.{mark-step}
use Rattle.iso_plan.proofs.PathLemmas.{path-root}
use Rattle.iso_plan.specs.Paths.{is_on, parent, path}
use Rattle.iso_plan.specs.RowView.{row_of}
use Rattle.iso_plan.proofs.kept_nodes.mark_path.Goals as goal

pub loop-at-smaller : goal.loop-at-smaller
loop-at-smaller c =
    let rows = c.args.rows.now in
    let at = c.loop-at.at in
    let up = parent-at rows at c.index-rows-at.result c.loop-at.invariant.within in
    let below : parent (map row_of rows) at < at = c.requires.tree.below at c.loop-at-test.true in
    omega arith

pub loop-at-preserved : goal.loop-at-preserved
loop-at-preserved c =
    let rows = c.args.rows.now in
    let tree = map row_of rows in
    let at = c.loop-at.at in
    let xs = c.loop-at.kept.items in
    let up = parent-at rows at c.index-rows-at.result c.loop-at.invariant.within in
    let below : parent tree at < at = c.requires.tree.below at c.loop-at-test.true in
    let within = c.loop-at.invariant.within in
    let each = c.loop-at.invariant.each in
    record {
      within = omega arith;
      each = length-set xs at _ ∙ each;
      marked = λ m. mark-step tree c.requires.tree.below xs at (get_or rows at c.index-rows-at.result).parent m c.loop-at-test.true up (omega arith) ∙ c.loop-at.invariant.marked m;
    }

pub returns-clause-marked : goal.returns-clause-marked
returns-clause-marked c =
    let tree = map row_of c.args.rows.now in
    let xs = c.loop-at.kept.items in
    let zero : c.loop-at.at ≡ 0 = omega arith in
    λ m. sym (ap (λ (ns : List ℕ). is_on ns m || get_or xs m false) (ap (path tree) zero ∙ path-root tree)) ∙ c.loop-at.invariant.marked m
