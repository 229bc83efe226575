use Rattle.std.proofs.Common.{ℕ, List, ap}
use Rattle.std.proofs.lemmas.Result.{err_from_is_err_and}
use Rattle.std.specs.Borrow.{Bor}
use Rattle.iso_commands.specs.Lent.{lent}
use Rattle.iso_commands.specs.Parts.{each_word}
use Rattle.iso_tap.proofs.PrinterLemmas.{drop_next, left_cut, left_next}
use Rattle.iso_commands.proofs.part.each_word.Goals as goal

pub returns-in_err-one_word : goal.returns-in_err-one_word
returns-in_err-one_word g c =
    let p = err_from_is_err_and c.from_residual.result c.from_residual.ensures.1 in
    let next = ap (λ (ws : List (Bor (List ℕ))). each_word c.args.option.now (lent ws)) (drop_next c.args.words.now c.loop-given.given-index _ c.loop-given-test.true) in
    rw p.1 (left_cut _ _ p.0 next c.loop-given.invariant c.in_err-one_word.ensures)

pub loop-given-preserved : goal.loop-given-preserved
loop-given-preserved g c =
    let next = ap (λ (ws : List (Bor (List ℕ))). each_word c.args.option.now (lent ws)) (drop_next c.args.words.now c.loop-given.given-index _ c.loop-given-test.true) in
    left_next next c.loop-given.invariant c.in_ok-one_word.ensures
