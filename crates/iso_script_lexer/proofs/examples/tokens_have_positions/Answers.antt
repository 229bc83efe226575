use Rattle.std.proofs.Common.{codes}
use Rattle.iso_script_lexer.specs.Scan.{gap_from, front_of, pieces, pieces_of, quoted_length, symbol_front}
use Rattle.iso_script_lexer.specs.TokenFaults.{text_fault}
use Rattle.iso_script_lexer.specs.Spelling.{word_of}
use Rattle.iso_script_lexer.specs.Text.{decoded}
use Rattle.iso_script_lexer.proofs.Pieces.{pieces_of-HasPieces}
use Rattle.iso_script_lexer.proofs.examples.tokens_have_positions.Goals as goal

pub returns : goal.returns
unfolding pieces_of pieces gap_from front_of symbol_front quoted_length text_fault decoded word_of
returns c = pieces_of-HasPieces _ (codes "{\r// {}\t\"\r\n\t\ta1 = \"b c\";\r\n  7}d")
