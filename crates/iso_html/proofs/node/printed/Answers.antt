use Rattle.std.proofs.Common.{Ok, codes, sym, ◌∙◌}
use Rattle.iso_html.proofs.NodeLemmas.{printed-apart}
use Rattle.iso_junit.specs.Elements.{lines_text}
use Rattle.iso_model.specs.LinesView.{lines_in}
use Rattle.iso_tap.proofs.PrinterLemmas.{prints_as, prints_cut, prints_stopped, prints_then}
use Rattle.iso_html.proofs.node.printed.Goals as goal

pub returns-in_err-bytes : goal.returns-in_err-bytes
returns-in_err-bytes g c =
    let ls = lines_in c.args.view.lines in
    let ms = lines_in c.args.view.more in
    let apart = printed-apart ls ms (sym c.printed_nothing.ensures ∙ c.if-printed_nothing.false) in
    prints_as
    (prints_stopped (codes "</pre>\n") _ c.from_residual.ensures.0 (prints_cut (lines_text ms) _ _ (prints_cut (lines_text ls) _ _ c.in_err-bytes.ensures)))
    _ (sym apart)

pub returns-in_err-all_lines : goal.returns-in_err-all_lines
returns-in_err-all_lines g c =
    let ls = lines_in c.args.view.lines in
    let ms = lines_in c.args.view.more in
    let apart = printed-apart ls ms (sym c.printed_nothing.ensures ∙ c.if-printed_nothing.false) in
    prints_as
    (prints_stopped (codes "</pre>\n") _ c.from_residual-in_err-all_lines.ensures.0 (prints_cut (lines_text ms) _ _ (prints_then _ c.in_ok-bytes.ensures c.in_err-all_lines.ensures)))
    _ (sym apart)

pub returns-in_err-all_lines-2 : goal.returns-in_err-all_lines-2
returns-in_err-all_lines-2 g c =
    let ls = lines_in c.args.view.lines in
    let ms = lines_in c.args.view.more in
    let apart = printed-apart ls ms (sym c.printed_nothing.ensures ∙ c.if-printed_nothing.false) in
    prints_as
    (prints_stopped (codes "</pre>\n") _ c.from_residual-in_err-all_lines-2.ensures.0
    (prints_then _ (prints_then (Ok tt) c.in_ok-bytes.ensures c.in_ok-all_lines.ensures) c.in_err-all_lines-2.ensures))
    _ (sym apart)

pub returns : goal.returns
returns g c =
    let ls = lines_in c.args.view.lines in
    let ms = lines_in c.args.view.more in
    let apart = printed-apart ls ms (sym c.printed_nothing.ensures ∙ c.if-printed_nothing.false) in
    prints_as (prints_then _ (prints_then (Ok tt) (prints_then (Ok tt) c.in_ok-bytes.ensures c.in_ok-all_lines.ensures) c.in_ok-all_lines-2.ensures) c.bytes-2.ensures) _ (sym apart)
