use Rattle.std.proofs.Common.{codes}
use Rattle.iso_script_lexer.specs.Scan.{gap_from, front_of, pieces, pieces_of, quoted_length, symbol_front}
use Rattle.iso_script_lexer.specs.TokenFaults.{text_fault}
use Rattle.iso_script_lexer.specs.Spelling.{word_of}
use Rattle.iso_script_lexer.specs.Text.{decoded}
use Rattle.iso_script_lexer.proofs.Pieces.{pieces_of-HasPieces}
use Rattle.iso_script_lexer.proofs.examples.numbers_are_digits.Goals as goal

pub returns-clause-zeros : goal.returns-clause-zeros
unfolding pieces_of pieces gap_from front_of symbol_front quoted_length text_fault decoded word_of
returns-clause-zeros c = pieces_of-HasPieces _ (codes "0 007 10")

pub returns-clause-largest : goal.returns-clause-largest
unfolding pieces_of pieces gap_from front_of symbol_front quoted_length text_fault decoded word_of
returns-clause-largest c = pieces_of-HasPieces _ (codes "9223372036854775808")

pub returns-clause-too_big : goal.returns-clause-too_big
unfolding pieces_of pieces gap_from front_of symbol_front quoted_length text_fault decoded word_of
returns-clause-too_big c = pieces_of-HasPieces _ (codes "9223372036854775809")

pub returns-clause-letter : goal.returns-clause-letter
unfolding pieces_of pieces gap_from front_of symbol_front quoted_length text_fault decoded word_of
returns-clause-letter c = pieces_of-HasPieces _ (codes "1a")

pub returns-clause-underscore : goal.returns-clause-underscore
unfolding pieces_of pieces gap_from front_of symbol_front quoted_length text_fault decoded word_of
returns-clause-underscore c = pieces_of-HasPieces _ (codes "1_0")

pub returns-clause-both : goal.returns-clause-both
unfolding pieces_of pieces gap_from front_of symbol_front quoted_length text_fault decoded word_of
returns-clause-both c = pieces_of-HasPieces _ (codes "9223372036854775809a")

pub returns-clause-sign : goal.returns-clause-sign
unfolding pieces_of pieces gap_from front_of symbol_front quoted_length text_fault decoded word_of
returns-clause-sign c = pieces_of-HasPieces _ (codes "-1")
