use Rattle.std.proofs.Common.{codes}
use Rattle.iso_script_lexer.specs.Scan.{gap_from, front_of, pieces, pieces_of, quoted_length, symbol_front}
use Rattle.iso_script_lexer.specs.TokenFaults.{text_fault}
use Rattle.iso_script_lexer.specs.Spelling.{word_of}
use Rattle.iso_script_lexer.specs.Text.{decoded}
use Rattle.iso_script_lexer.proofs.Pieces.{pieces_of-HasPieces}
use Rattle.iso_script_lexer.proofs.examples.symbols_are_the_longest_that_fit.Goals as goal

pub returns-clause-each : goal.returns-clause-each
unfolding pieces_of pieces gap_from front_of symbol_front quoted_length text_fault decoded word_of
returns-clause-each c = pieces_of-HasPieces _ (codes "{}();,=+-*++==!=<")

pub returns-clause-three : goal.returns-clause-three
unfolding pieces_of pieces gap_from front_of symbol_front quoted_length text_fault decoded word_of
returns-clause-three c = pieces_of-HasPieces _ (codes "+++ === <= - -")

pub returns-clause-no_symbol : goal.returns-clause-no_symbol
unfolding pieces_of pieces gap_from front_of symbol_front quoted_length text_fault decoded word_of
returns-clause-no_symbol c = pieces_of-HasPieces _ (codes "! =")
