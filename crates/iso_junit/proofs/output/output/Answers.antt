use Rattle.std.proofs.Common.{List, ℕ, Ok, [], ◌∷◌, codes, sym, ap, ◌∙◌}
use Rattle.iso_junit.proofs.OutputLemmas.{output-apart, output_head}
use Rattle.iso_junit.specs.Elements.{lines_text}
use Rattle.iso_junit.specs.Texts.{joined}
use Rattle.iso_model.specs.LinesView.{lines_in}
use Rattle.iso_plan.specs.Paths.{row_at}
use Rattle.iso_plan.specs.RowView.{tree_of}
use Rattle.iso_tap.proofs.PrinterLemmas.{prints_as, prints_cut, prints_stopped, prints_then}
use Rattle.iso_junit.proofs.output.output.Goals as goal

pub returns-in_err-parts : goal.returns-in_err-parts
returns-in_err-parts g c =
    let row = row_at (tree_of c.args.plan.now) c.args.node in
    let indent = c.args.indent.now in
    let ls = lines_in c.args.view.lines in
    let ms = lines_in c.args.view.more in
    let apart = output-apart indent row ls ms (sym c.is_silent.ensures ∙ c.if-is_silent.false) in
    let line = ap (λ (t : List ℕ). joined (indent ∷ codes "<system-out>" ∷ t ∷ [])) c.display_line.ensures in
    let head = prints_as c.in_err-parts.ensures (output_head indent row) line in
    prints_as (prints_stopped (codes "</system-out>\n") _ c.from_residual.ensures.0 (prints_cut (lines_text ms) _ _ (prints_cut (lines_text ls) _ _ head))) _ (sym apart)

pub returns-in_err-all_lines : goal.returns-in_err-all_lines
returns-in_err-all_lines g c =
    let row = row_at (tree_of c.args.plan.now) c.args.node in
    let indent = c.args.indent.now in
    let ls = lines_in c.args.view.lines in
    let ms = lines_in c.args.view.more in
    let apart = output-apart indent row ls ms (sym c.is_silent.ensures ∙ c.if-is_silent.false) in
    let line = ap (λ (t : List ℕ). joined (indent ∷ codes "<system-out>" ∷ t ∷ [])) c.display_line.ensures in
    let head = prints_as {r = Ok tt} c.in_ok-parts.ensures (output_head indent row) line in
    prints_as
    (prints_stopped (codes "</system-out>\n") _ c.from_residual-in_err-all_lines.ensures.0 (prints_cut (lines_text ms) _ _ (prints_then _ head c.in_err-all_lines.ensures)))
    _ (sym apart)

pub returns-in_err-all_lines-2 : goal.returns-in_err-all_lines-2
returns-in_err-all_lines-2 g c =
    let row = row_at (tree_of c.args.plan.now) c.args.node in
    let indent = c.args.indent.now in
    let ls = lines_in c.args.view.lines in
    let ms = lines_in c.args.view.more in
    let apart = output-apart indent row ls ms (sym c.is_silent.ensures ∙ c.if-is_silent.false) in
    let line = ap (λ (t : List ℕ). joined (indent ∷ codes "<system-out>" ∷ t ∷ [])) c.display_line.ensures in
    let head = prints_as {r = Ok tt} c.in_ok-parts.ensures (output_head indent row) line in
    prints_as
    (prints_stopped (codes "</system-out>\n") _ c.from_residual-in_err-all_lines-2.ensures.0 (prints_then _ (prints_then (Ok tt) head c.in_ok-all_lines.ensures) c.in_err-all_lines-2.ensures))
    _ (sym apart)

pub returns : goal.returns
returns g c =
    let row = row_at (tree_of c.args.plan.now) c.args.node in
    let indent = c.args.indent.now in
    let ls = lines_in c.args.view.lines in
    let ms = lines_in c.args.view.more in
    let apart = output-apart indent row ls ms (sym c.is_silent.ensures ∙ c.if-is_silent.false) in
    let line = ap (λ (t : List ℕ). joined (indent ∷ codes "<system-out>" ∷ t ∷ [])) c.display_line.ensures in
    let head = prints_as {r = Ok tt} c.in_ok-parts.ensures (output_head indent row) line in
    prints_as (prints_then _ (prints_then (Ok tt) (prints_then (Ok tt) head c.in_ok-all_lines.ensures) c.in_ok-all_lines-2.ensures) c.bytes.ensures) _ (sym apart)
