use Rattle.std.proofs.Common.{◌∷◌, ◌+◌, List, Ok, Option, ℕ, [], ap, drop, map, sym, unwrap_or, ◌∙◌}
use Rattle.std.proofs.lemmas.Result.{err_from_is_err_and}
use Rattle.iso_tap.proofs.PrinterLemmas.{drop_next, left_cut, left_next, prints_as}
use Rattle.iso_tap.specs.Sinks.{Account}
use Rattle.iso_explain_settings.specs.Parts.{joined}
use Rattle.iso_explain_settings.specs.Warnings.{line_in}
use Rattle.iso_explain_settings.proofs.warnings.write_lines.Goals as goal

pub returns-in_err-bytes : goal.returns-in_err-bytes
returns-in_err-bytes g c =
    let lines = c.args.lines.now in
    let i = c.loop-line.line-index in
    let p = err_from_is_err_and c.from_residual.result c.from_residual.ensures.1 in
    let first = drop_next lines i c.line-item.result c.loop-line-test.true ∙ ap (λ (l : Account). l ∷ drop (i + 1) lines) (sym c.line-item.is) in
    let next = ap (λ (ls : List Account). joined (map line_in ls)) first in
    let same = sym (ap (λ (b : Option (List ℕ)). unwrap_or b []) c.bytes.ensures) in
    rw p.1 (left_cut _ _ p.0 next c.loop-line.invariant (prints_as c.in_err-bytes.ensures (line_in c.line-item.result) same))

pub loop-line-preserved : goal.loop-line-preserved
loop-line-preserved g c =
    let lines = c.args.lines.now in
    let i = c.loop-line.line-index in
    let first = drop_next lines i c.line-item.result c.loop-line-test.true ∙ ap (λ (l : Account). l ∷ drop (i + 1) lines) (sym c.line-item.is) in
    let next = ap (λ (ls : List Account). joined (map line_in ls)) first in
    let same = sym (ap (λ (b : Option (List ℕ)). unwrap_or b []) c.bytes.ensures) in
    left_next next c.loop-line.invariant (prints_as {r = Ok tt} c.in_ok-bytes.ensures (line_in c.line-item.result) same)
