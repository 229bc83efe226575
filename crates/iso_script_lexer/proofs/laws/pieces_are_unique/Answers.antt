use Rattle.iso_script_lexer.proofs.Pieces.{one_list}
use Rattle.iso_script_lexer.proofs.laws.pieces_are_unique.Goals as goal

pub returns : goal.returns
returns c = λ row bs ps qs a b. one_list a b
