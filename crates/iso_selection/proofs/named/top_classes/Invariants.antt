use Rattle.std.proofs.Common.{◌≡◌, List}
use Rattle.iso_plan.specs.Paths.{IsTree, column, is_top}
use Rattle.iso_plan.specs.TopClasses.{all_top_classes}
use Rattle.iso_plan.specs.Tree.{Row}
use Rattle.iso_selection.proofs.named.top_classes.Given as goal

abbrev pub invariant-nodes : goal.invariant-nodes
invariant-nodes l = (tree : List Row) → IsTree tree → l.classes ≡ all_top_classes tree → l.tops.items ≡ column (is_top tree) l.n
