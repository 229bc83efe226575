use Rattle.std.proofs.Common.{Ok, ap, codes, map}
use Rattle.std.specs.Option.{option_map}
use Rattle.iso_html.specs.Commands.{commands_of}
use Rattle.iso_html.specs.Pages.{tree_heading, wrong_heading, wrongs_text}
use Rattle.iso_html.specs.Quotes.{excerpt_of}
use Rattle.iso_html.specs.Sections.{sections_text}
use Rattle.iso_html.specs.Trees.{tree_text}
use Rattle.iso_junit.specs.Runs.{run_of}
use Rattle.iso_tap.proofs.PrinterLemmas.{prints_as, prints_cut, prints_stopped, prints_then}
use Rattle.iso_html.proofs.page.body.Goals as goal

pub returns-in_err-wrong_heading : goal.returns-in_err-wrong_heading
returns-in_err-wrong_heading g c =
    let r = run_of c.args.run.now in
    prints_stopped (codes "</main>\n</body>\n</html>\n") _ c.from_residual.ensures.0
    (prints_cut (sections_text r (option_map (λ m. m.now) c.args.measured)) _ _
    (prints_cut (codes "</section>\n") _ _ (prints_cut (tree_text r c.args.run.now.plan.now.settings) _ _
    (prints_cut tree_heading _ _ (prints_cut (wrongs_text r (map excerpt_of c.args.quotes.now) (commands_of c.args.commands.now)) _ _
    (prints_as c.in_err-wrong_heading.ensures _ (ap wrong_heading c.requires.totals)))))))

pub returns-in_err-wrongs : goal.returns-in_err-wrongs
returns-in_err-wrongs g c =
    let r = run_of c.args.run.now in
    prints_stopped (codes "</main>\n</body>\n</html>\n") _ c.from_residual-in_err-wrongs.ensures.0
    (prints_cut (sections_text r (option_map (λ m. m.now) c.args.measured)) _ _
    (prints_cut (codes "</section>\n") _ _ (prints_cut (tree_text r c.args.run.now.plan.now.settings) _ _
    (prints_cut tree_heading _ _ (prints_then _ (prints_as {r = Ok tt} c.in_ok-wrong_heading.ensures _ (ap wrong_heading c.requires.totals)) c.in_err-wrongs.ensures)))))

pub returns-in_err-tree_heading : goal.returns-in_err-tree_heading
returns-in_err-tree_heading g c =
    let r = run_of c.args.run.now in
    prints_stopped (codes "</main>\n</body>\n</html>\n") _ c.from_residual-in_err-tree_heading.ensures.0
    (prints_cut (sections_text r (option_map (λ m. m.now) c.args.measured)) _ _
    (prints_cut (codes "</section>\n") _ _ (prints_cut (tree_text r c.args.run.now.plan.now.settings) _ _
    (prints_then _ (prints_then (Ok tt) (prints_as {r = Ok tt} c.in_ok-wrong_heading.ensures _ (ap wrong_heading c.requires.totals)) c.in_ok-wrongs.ensures) c.in_err-tree_heading.ensures))))

pub returns-in_err-list : goal.returns-in_err-list
returns-in_err-list g c =
    let r = run_of c.args.run.now in
    prints_stopped (codes "</main>\n</body>\n</html>\n") _ c.from_residual-in_err-list.ensures.0
    (prints_cut (sections_text r (option_map (λ m. m.now) c.args.measured)) _ _
    (prints_cut (codes "</section>\n") _ _ (prints_then _
    (prints_then (Ok tt) (prints_then (Ok tt) (prints_as {r = Ok tt} c.in_ok-wrong_heading.ensures _ (ap wrong_heading c.requires.totals)) c.in_ok-wrongs.ensures)
    c.in_ok-tree_heading.ensures) c.in_err-list.ensures)))

pub returns-in_err-bytes : goal.returns-in_err-bytes
returns-in_err-bytes g c =
    let r = run_of c.args.run.now in
    prints_stopped (codes "</main>\n</body>\n</html>\n") _ c.from_residual-in_err-bytes.ensures.0
    (prints_cut (sections_text r (option_map (λ m. m.now) c.args.measured)) _ _
    (prints_then _ (prints_then (Ok tt) (prints_then (Ok tt)
    (prints_then (Ok tt) (prints_as {r = Ok tt} c.in_ok-wrong_heading.ensures _ (ap wrong_heading c.requires.totals)) c.in_ok-wrongs.ensures) c.in_ok-tree_heading.ensures)
    c.in_ok-list.ensures) c.in_err-bytes.ensures))

pub returns-in_err-sections : goal.returns-in_err-sections
returns-in_err-sections g c =
    let r = run_of c.args.run.now in
    prints_stopped (codes "</main>\n</body>\n</html>\n") _ c.from_residual-in_err-sections.ensures.0
    (prints_then _ (prints_then (Ok tt) (prints_then (Ok tt)
    (prints_then (Ok tt) (prints_then (Ok tt) (prints_as {r = Ok tt} c.in_ok-wrong_heading.ensures _ (ap wrong_heading c.requires.totals)) c.in_ok-wrongs.ensures)
    c.in_ok-tree_heading.ensures) c.in_ok-list.ensures) c.in_ok-bytes.ensures) c.in_err-sections.ensures)

pub returns : goal.returns
returns g c =
    let r = run_of c.args.run.now in
    prints_then _ (prints_then (Ok tt) (prints_then (Ok tt)
    (prints_then (Ok tt) (prints_then (Ok tt) (prints_then (Ok tt) (prints_as {r = Ok tt} c.in_ok-wrong_heading.ensures _ (ap wrong_heading c.requires.totals)) c.in_ok-wrongs.ensures)
    c.in_ok-tree_heading.ensures) c.in_ok-list.ensures) c.in_ok-bytes.ensures) c.in_ok-sections.ensures) c.bytes-2.ensures

pub list-requires-clause-within : goal.list-requires-clause-within
list-requires-clause-within g c = c.nodes_are_a_tree.ensures.rooted
