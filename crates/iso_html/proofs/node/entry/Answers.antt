use Rattle.std.proofs.Common.{List, ℕ, Ok, ap, codes, map}
use Rattle.iso_html.specs.Commands.{again_text, commands_of}
use Rattle.iso_html.specs.Nodes.{blocks_text, printed_text, wrong_head}
use Rattle.iso_html.specs.Quotes.{line_of, quote_text}
use Rattle.iso_junit.specs.Runs.{placed_of}
use Rattle.iso_lifecycle.specs.ResultViews.{outcome_of_view}
use Rattle.iso_plan.specs.PathTexts.{path_text}
use Rattle.iso_plan.specs.RowView.{tree_of}
use Rattle.iso_tap.proofs.PrinterLemmas.{prints_as, prints_cut, prints_stopped, prints_then}
use Rattle.iso_html.proofs.node.entry.Goals as goal

pub returns-in_err-wrong_head : goal.returns-in_err-wrong_head
returns-in_err-wrong_head g c =
    let same = ap (λ (s : List ℕ). wrong_head s (path_text (tree_of c.args.plan.now) c.args.node) c.args.message.now c.args.node (placed_of c.args.at.now)) c.sign.ensures in
    prints_stopped (codes "</article>\n") _ c.from_residual.ensures.0
    (prints_cut (again_text (commands_of c.args.commands.now) (tree_of c.args.plan.now) c.args.node (placed_of c.args.at.now)) _ _
    (prints_cut (printed_text (outcome_of_view c.args.view).output) _ _
    (prints_cut (blocks_text c.args.blocked) _ _ (prints_cut (quote_text c.args.at.now.ended (map line_of c.args.lines.now)) _ _ (prints_as c.in_err-wrong_head.ensures _ same)))))

pub returns-in_err-quote : goal.returns-in_err-quote
returns-in_err-quote g c =
    let same = ap (λ (s : List ℕ). wrong_head s (path_text (tree_of c.args.plan.now) c.args.node) c.args.message.now c.args.node (placed_of c.args.at.now)) c.sign.ensures in
    prints_stopped (codes "</article>\n") _ c.from_residual-in_err-quote.ensures.0
    (prints_cut (again_text (commands_of c.args.commands.now) (tree_of c.args.plan.now) c.args.node (placed_of c.args.at.now)) _ _
    (prints_cut (printed_text (outcome_of_view c.args.view).output) _ _
    (prints_cut (blocks_text c.args.blocked) _ _ (prints_then _ (prints_as {r = Ok tt} c.in_ok-wrong_head.ensures _ same) c.in_err-quote.ensures))))

pub returns-in_err-blocks : goal.returns-in_err-blocks
returns-in_err-blocks g c =
    let same = ap (λ (s : List ℕ). wrong_head s (path_text (tree_of c.args.plan.now) c.args.node) c.args.message.now c.args.node (placed_of c.args.at.now)) c.sign.ensures in
    prints_stopped (codes "</article>\n") _ c.from_residual-in_err-blocks.ensures.0
    (prints_cut (again_text (commands_of c.args.commands.now) (tree_of c.args.plan.now) c.args.node (placed_of c.args.at.now)) _ _
    (prints_cut (printed_text (outcome_of_view c.args.view).output) _ _
    (prints_then _ (prints_then (Ok tt) (prints_as {r = Ok tt} c.in_ok-wrong_head.ensures _ same) c.in_ok-quote.ensures) c.in_err-blocks.ensures)))

pub returns-in_err-printed : goal.returns-in_err-printed
returns-in_err-printed g c =
    let same = ap (λ (s : List ℕ). wrong_head s (path_text (tree_of c.args.plan.now) c.args.node) c.args.message.now c.args.node (placed_of c.args.at.now)) c.sign.ensures in
    prints_stopped (codes "</article>\n") _ c.from_residual-in_err-printed.ensures.0
    (prints_cut (again_text (commands_of c.args.commands.now) (tree_of c.args.plan.now) c.args.node (placed_of c.args.at.now)) _ _
    (prints_then _ (prints_then (Ok tt) (prints_then (Ok tt) (prints_as {r = Ok tt} c.in_ok-wrong_head.ensures _ same) c.in_ok-quote.ensures) c.in_ok-blocks.ensures) c.in_err-printed.ensures))

pub returns-in_err-again : goal.returns-in_err-again
returns-in_err-again g c =
    let same = ap (λ (s : List ℕ). wrong_head s (path_text (tree_of c.args.plan.now) c.args.node) c.args.message.now c.args.node (placed_of c.args.at.now)) c.sign.ensures in
    prints_stopped (codes "</article>\n") _ c.from_residual-in_err-again.ensures.0
    (prints_then _ (prints_then (Ok tt) (prints_then (Ok tt) (prints_then (Ok tt) (prints_as {r = Ok tt} c.in_ok-wrong_head.ensures _ same) c.in_ok-quote.ensures) c.in_ok-blocks.ensures)
    c.in_ok-printed.ensures) c.in_err-again.ensures)

pub returns : goal.returns
returns g c =
    let same = ap (λ (s : List ℕ). wrong_head s (path_text (tree_of c.args.plan.now) c.args.node) c.args.message.now c.args.node (placed_of c.args.at.now)) c.sign.ensures in
    prints_then _ (prints_then (Ok tt) (prints_then (Ok tt)
    (prints_then (Ok tt) (prints_then (Ok tt) (prints_as {r = Ok tt} c.in_ok-wrong_head.ensures _ same) c.in_ok-quote.ensures) c.in_ok-blocks.ensures) c.in_ok-printed.ensures)
    c.in_ok-again.ensures) c.bytes.ensures
