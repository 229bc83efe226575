use Rattle.std.proofs.Common.{drop, map}
use Rattle.iso_affected_text.specs.Words.{joined, word_text}
use Rattle.iso_tap.proofs.PrinterLemmas.{LeftToPrint}
use Rattle.iso_affected_text.proofs.word.words.Given as goal

abbrev pub invariant-loop-word : goal.invariant-loop-word
invariant-loop-word g l = LeftToPrint l.fn.printer l.printer (joined (map word_text l.words)) (joined (map word_text (drop l.word-index l.words)))
