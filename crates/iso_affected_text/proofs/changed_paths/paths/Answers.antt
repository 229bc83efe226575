use Rattle.std.proofs.Common.{List, ap, flat_map, map}
use Rattle.std.proofs.lemmas.Result.{err_from_is_err_and}
use Rattle.iso_affected_text.specs.Rows.{row_of}
use Rattle.iso_affected_text.specs.Texts.{path_line}
use Rattle.iso_affected_text.specs.declared.row.Row.{Row}
use Rattle.iso_tap.proofs.PrinterLemmas.{drop_next, left_cut, left_next}
use Rattle.iso_affected_text.proofs.changed_paths.paths.Goals as goal

pub returns-in_err-path : goal.returns-in_err-path
returns-in_err-path g c =
    let p = err_from_is_err_and c.from_residual.result c.from_residual.ensures.1 in
    let next = ap (λ (rs : List Row). flat_map path_line (map row_of rs)) (drop_next c.args.rows.now c.loop-row.row-index _ c.loop-row-test.true) in
    rw p.1 (left_cut _ _ p.0 next c.loop-row.invariant c.in_err-path.ensures)

pub loop-row-preserved : goal.loop-row-preserved
loop-row-preserved g c =
    let next = ap (λ (rs : List Row). flat_map path_line (map row_of rs)) (drop_next c.args.rows.now c.loop-row.row-index _ c.loop-row-test.true) in
    left_next next c.loop-row.invariant c.in_ok-path.ensures
