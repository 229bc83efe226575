use Rattle.std.proofs.Common.{List, ap, map}
use Rattle.std.proofs.lemmas.Result.{err_from_is_err_and}
use Rattle.iso_affected_text.specs.Words.{joined, word_text}
use Rattle.iso_affected_text.specs.declared.word.Word.{Word}
use Rattle.iso_tap.proofs.PrinterLemmas.{drop_next, left_cut, left_next}
use Rattle.iso_affected_text.proofs.word.words.Goals as goal

pub returns-in_err-write_word : goal.returns-in_err-write_word
returns-in_err-write_word g c =
    let p = err_from_is_err_and c.from_residual.result c.from_residual.ensures.1 in
    let next = ap (λ (ws : List Word). joined (map word_text ws)) (drop_next c.args.words.now c.loop-word.word-index _ c.loop-word-test.true) in
    rw p.1 (left_cut _ _ p.0 next c.loop-word.invariant c.in_err-write_word.ensures)

pub loop-word-preserved : goal.loop-word-preserved
loop-word-preserved g c =
    let next = ap (λ (ws : List Word). joined (map word_text ws)) (drop_next c.args.words.now c.loop-word.word-index _ c.loop-word-test.true) in
    left_next next c.loop-word.invariant c.in_ok-write_word.ensures
