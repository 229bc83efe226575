use Rattle.iso_script_lexer.specs.Positions.{first_line}
use Rattle.iso_script_lexer.proofs.Pieces.{pieces_of-HasPieces}
use Rattle.iso_script_lexer.proofs.lexer.Lexer.new.Goals as goal

pub returns : goal.returns
returns c = rw (c.pass.ensures, c.new-next.ensures.line, c.new-next.ensures.rest) (pieces_of-HasPieces (first_line c.args.bytes.now) c.args.bytes.now)
