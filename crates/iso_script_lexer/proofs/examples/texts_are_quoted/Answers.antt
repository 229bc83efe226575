use Rattle.std.proofs.Common.{codes}
use Rattle.iso_script_lexer.specs.Scan.{gap_from, front_of, pieces, pieces_of, quoted_length, symbol_front}
use Rattle.iso_script_lexer.specs.TokenFaults.{text_fault}
use Rattle.iso_script_lexer.specs.Spelling.{word_of}
use Rattle.iso_script_lexer.specs.Text.{decoded}
use Rattle.iso_script_lexer.proofs.Pieces.{pieces_of-HasPieces}
use Rattle.iso_script_lexer.proofs.examples.texts_are_quoted.Goals as goal

pub returns-clause-escapes : goal.returns-clause-escapes
unfolding pieces_of pieces gap_from front_of symbol_front quoted_length text_fault decoded word_of
returns-clause-escapes c = pieces_of-HasPieces _ (codes "\"\" \"a \\\"b\\\" \\\\ // ~\"")

pub returns-clause-line_feed : goal.returns-clause-line_feed
unfolding pieces_of pieces gap_from front_of symbol_front quoted_length text_fault decoded word_of
returns-clause-line_feed c = pieces_of-HasPieces _ (codes "\"a\n\"")

pub returns-clause-end : goal.returns-clause-end
unfolding pieces_of pieces gap_from front_of symbol_front quoted_length text_fault decoded word_of
returns-clause-end c = pieces_of-HasPieces _ (codes "\"a")

pub returns-clause-after_backslash : goal.returns-clause-after_backslash
unfolding pieces_of pieces gap_from front_of symbol_front quoted_length text_fault decoded word_of
returns-clause-after_backslash c = pieces_of-HasPieces _ (codes "\"\\\n\"")

pub returns-clause-other_escape : goal.returns-clause-other_escape
unfolding pieces_of pieces gap_from front_of symbol_front quoted_length text_fault decoded word_of
returns-clause-other_escape c = pieces_of-HasPieces _ (codes "\"\\n\"")

pub returns-clause-tab : goal.returns-clause-tab
unfolding pieces_of pieces gap_from front_of symbol_front quoted_length text_fault decoded word_of
returns-clause-tab c = pieces_of-HasPieces _ (codes "\"\t\"")
