use Rattle.std.proofs.Common.{ℕ, List, ap}
use Rattle.std.proofs.lemmas.Result.{err_from_is_err_and}
use Rattle.std.specs.Borrow.{Bor}
use Rattle.iso_commands.specs.Lent.{lent}
use Rattle.iso_commands.specs.Parts.{each_file}
use Rattle.iso_tap.proofs.PrinterLemmas.{drop_next, left_cut, left_next}
use Rattle.iso_commands.proofs.part.each_file.Goals as goal

pub returns-in_err-one_file : goal.returns-in_err-one_file
returns-in_err-one_file g c =
    let p = err_from_is_err_and c.from_residual.result c.from_residual.ensures.1 in
    let next = ap (λ (ws : List (Bor (List ℕ))). each_file (lent ws)) (drop_next c.args.names.now c.loop-name.name-index _ c.loop-name-test.true) in
    rw p.1 (left_cut _ _ p.0 next c.loop-name.invariant c.in_err-one_file.ensures)

pub loop-name-preserved : goal.loop-name-preserved
loop-name-preserved g c =
    let next = ap (λ (ws : List (Bor (List ℕ))). each_file (lent ws)) (drop_next c.args.names.now c.loop-name.name-index _ c.loop-name-test.true) in
    left_next next c.loop-name.invariant c.in_ok-one_file.ensures
