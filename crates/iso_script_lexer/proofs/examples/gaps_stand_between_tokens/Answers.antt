use Rattle.std.proofs.Common.{codes}
use Rattle.iso_script_lexer.specs.Scan.{gap_from, front_of, pieces, pieces_of, quoted_length, symbol_front}
use Rattle.iso_script_lexer.specs.TokenFaults.{text_fault}
use Rattle.iso_script_lexer.specs.Spelling.{word_of}
use Rattle.iso_script_lexer.specs.Text.{decoded}
use Rattle.iso_script_lexer.proofs.Pieces.{pieces_of-HasPieces}
use Rattle.iso_script_lexer.proofs.examples.gaps_stand_between_tokens.Goals as goal

pub returns-clause-blanks : goal.returns-clause-blanks
unfolding pieces_of pieces gap_from front_of symbol_front quoted_length text_fault decoded word_of
returns-clause-blanks c = pieces_of-HasPieces _ (codes " a\tb\r\n\nc")

pub returns-clause-comments : goal.returns-clause-comments
unfolding pieces_of pieces gap_from front_of symbol_front quoted_length text_fault decoded word_of
returns-clause-comments c = pieces_of-HasPieces _ (codes "a// \"b\" // @\tc\r\n//\n//d\r\nb // c")

pub returns-clause-none : goal.returns-clause-none
unfolding pieces_of pieces gap_from front_of symbol_front quoted_length text_fault decoded word_of
returns-clause-none c = pieces_of-HasPieces _ (codes "\r\n// a")

pub returns-clause-one_slash : goal.returns-clause-one_slash
unfolding pieces_of pieces gap_from front_of symbol_front quoted_length text_fault decoded word_of
returns-clause-one_slash c = pieces_of-HasPieces _ (codes "a / b")

pub returns-clause-other_bytes : goal.returns-clause-other_bytes
unfolding pieces_of pieces gap_from front_of symbol_front quoted_length text_fault decoded word_of
returns-clause-other_bytes c = pieces_of-HasPieces _ (codes "// \u{7f}")
