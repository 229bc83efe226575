use Rattle.std.proofs.Common.{Ok}
use Rattle.iso_lifecycle.specs.ResultViews.{outcome_in}
use Rattle.iso_plan.specs.RowView.{tree_of}
use Rattle.iso_failures.specs.Failures.{is_failure, path_line}
use Rattle.iso_tap.specs.Printers.{Prints}
use Rattle.iso_failures.proofs.TextLemmas.{lines_below}
use Rattle.iso_failures.proofs.text.lines.Given as goal

abbrev pub invariant-nodes : goal.invariant-nodes
invariant-nodes g l = Prints l.fn.printer l.printer (lines_below (path_line (tree_of l.plan)) (is_failure (outcome_in l.results)) l.node) (Ok tt)
