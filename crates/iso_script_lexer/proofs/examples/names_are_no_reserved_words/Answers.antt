use Rattle.std.proofs.Common.{codes}
use Rattle.iso_script_lexer.specs.Scan.{gap_from, front_of, pieces, pieces_of, quoted_length, symbol_front}
use Rattle.iso_script_lexer.specs.Spelling.{words_text}
use Rattle.iso_script_lexer.specs.TokenFaults.{text_fault}
use Rattle.iso_script_lexer.specs.Spelling.{word_of}
use Rattle.iso_script_lexer.specs.Text.{decoded}
use Rattle.iso_script_lexer.proofs.Pieces.{pieces_of-HasPieces}
use Rattle.iso_script_lexer.proofs.examples.names_are_no_reserved_words.Goals as goal

pub returns-clause-words : goal.returns-clause-words
unfolding pieces_of pieces gap_from front_of symbol_front quoted_length text_fault decoded word_of
returns-clause-words c = pieces_of-HasPieces _ words_text

pub returns-clause-names : goal.returns-clause-names
unfolding pieces_of pieces gap_from front_of symbol_front quoted_length text_fault decoded word_of
returns-clause-names c = pieces_of-HasPieces _ (codes "Test tests test1 test_ a9Z_")

pub returns-clause-of_64_bytes : goal.returns-clause-of_64_bytes
unfolding pieces_of pieces gap_from front_of symbol_front quoted_length text_fault decoded word_of
returns-clause-of_64_bytes c = pieces_of-HasPieces _ (codes "abcdefghijklmnopqrstuvwxyzABCDEFGHIJKLMNOPQRSTUVWXYZ0123456789__")

pub returns-clause-of_65_bytes : goal.returns-clause-of_65_bytes
unfolding pieces_of pieces gap_from front_of symbol_front quoted_length text_fault decoded word_of
returns-clause-of_65_bytes c = pieces_of-HasPieces _ (codes "abcdefghijklmnopqrstuvwxyzABCDEFGHIJKLMNOPQRSTUVWXYZ0123456789___")

pub returns-clause-underscore : goal.returns-clause-underscore
unfolding pieces_of pieces gap_from front_of symbol_front quoted_length text_fault decoded word_of
returns-clause-underscore c = pieces_of-HasPieces _ (codes "_a")
