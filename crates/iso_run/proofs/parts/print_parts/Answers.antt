use Rattle.std.proofs.Common.{◌+◌, ◌∷◌, ◌∙◌, List, ap, drop, map, sym}
use Rattle.std.proofs.lemmas.Result.{err_from_is_err_and}
use Rattle.iso_run.specs.Besides.{parted}
use Rattle.iso_run.specs.Parts.{text_of}
use Rattle.iso_run.specs.declared.parts.Part.{Part}
use Rattle.iso_tap.proofs.PrinterLemmas.{drop_next, left_cut, left_next}
use Rattle.iso_run.proofs.parts.print_parts.Goals as goal

pub returns-in_err-print_part : goal.returns-in_err-print_part
returns-in_err-print_part g c =
    let p = err_from_is_err_and c.from_residual.result c.from_residual.ensures.1 in
    let parts = c.args.parts.now in
    let i = c.parts.part-index in
    let first = drop_next parts i c.part-item.result c.parts-test.true ∙ ap (λ (part : Part). part ∷ drop (i + 1) parts) (sym c.part-item.is) in
    let next = ap (λ (ps : List Part). parted c.parts.after (map text_of ps)) first in
    rw p.1 (left_cut _ _ p.0 next c.parts.invariant c.in_err-print_part.ensures)

pub parts-preserved : goal.parts-preserved
parts-preserved g c =
    let parts = c.args.parts.now in
    let i = c.parts.part-index in
    let first = drop_next parts i c.part-item.result c.parts-test.true ∙ ap (λ (part : Part). part ∷ drop (i + 1) parts) (sym c.part-item.is) in
    let next = ap (λ (ps : List Part). parted c.parts.after (map text_of ps)) first in
    rw c.goes_on-after.ensures (left_next next c.parts.invariant c.in_ok-print_part.ensures)
