use Rattle.std.proofs.Common.{◌≡◌, ◌&&◌, ◌+◌, ◌-◌, ◌*◌, length, drop}
use Rattle.std.specs.List.{list_all}
use Rattle.iso_lifecycle.specs.ResultViews.{outcome_in}
use Rattle.iso_plan.specs.RowView.{tree_of}
use Rattle.iso_tap.specs.Reports.{is_ok, level, numbered, reported}
use Rattle.iso_tap.proofs.BufferLemmas.{LeftToBuffer}
use Rattle.iso_tap.proofs.buffered.BufferedPrinter.+levels.Given as goal

abbrev pub decreases-level : goal.decreases-level
decreases-level g l = 3 * (length l.plan.now.rows - l.node)

abbrev pub decreases-reported : goal.decreases-reported
decreases-reported g l = 3 * (length l.plan.now.rows - l.node) + 2

abbrev pub decreases-subtest : goal.decreases-subtest
decreases-subtest g l = 3 * (length l.plan.now.rows - l.node) + 1

-- what is left to print, and whether the points that were printed are ok
abbrev pub invariant-level-children : goal.invariant-level-children
invariant-level-children g l = record {
  printed : LeftToBuffer l.fn.self l.self
      (level l.indent (reported (tree_of l.plan) (outcome_in l.results) l.indent) l.children)
      (numbered (reported (tree_of l.plan) (outcome_in l.results) l.indent) (l.i + 1) (drop l.i l.children));
  ok : (l.all_ok && list_all (is_ok (tree_of l.plan) (outcome_in l.results)) (drop l.i l.children))
      ≡ list_all (is_ok (tree_of l.plan) (outcome_in l.results)) l.children;
}
