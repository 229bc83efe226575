use Rattle.std.proofs.Common.{List, ℕ, ap, map}
use Rattle.iso_html.specs.Commands.{again_text, commands_of}
use Rattle.iso_html.specs.Nodes.{entry_text}
use Rattle.iso_html.specs.Quotes.{line_of}
use Rattle.iso_junit.specs.Runs.{placed_of}
use Rattle.iso_lifecycle.specs.ResultViews.{outcome_of_view, verdict_of_view}
use Rattle.iso_plan.specs.PathTexts.{path_text}
use Rattle.iso_plan.specs.RowView.{tree_of}
use Rattle.iso_tap.proofs.PrinterLemmas.{prints_as}
use Rattle.iso_html.proofs.node.wrong.Goals as goal

pub returns-in-Fail : goal.returns-in-Fail
returns-in-Fail g c =
    let path = path_text (tree_of c.args.plan.now) c.args.node in
    let output = (outcome_of_view c.args.view).output in
    let again = again_text (commands_of c.args.commands.now) (tree_of c.args.plan.now) c.args.node (placed_of c.args.at.now) in
    let same = ap (λ (m : List ℕ). entry_text (verdict_of_view c.args.view.verdict) path m c.args.node (placed_of c.args.at.now) (map line_of c.args.lines.now) c.args.blocked output again)
    c.as_str.ensures in
    rw c.in-Fail.is (prints_as c.entry.ensures _ (rw c.in-Fail.is at same))

pub returns-in-Fault : goal.returns-in-Fault
returns-in-Fault g c =
    let path = path_text (tree_of c.args.plan.now) c.args.node in
    let output = (outcome_of_view c.args.view).output in
    let again = again_text (commands_of c.args.commands.now) (tree_of c.args.plan.now) c.args.node (placed_of c.args.at.now) in
    let same = ap (λ (m : List ℕ). entry_text (verdict_of_view c.args.view.verdict) path m c.args.node (placed_of c.args.at.now) (map line_of c.args.lines.now) c.args.blocked output again)
    c.as_str-in-Fault.ensures in
    rw c.in-Fault.is (prints_as c.entry-in-Fault.ensures _ (rw c.in-Fault.is at same))
