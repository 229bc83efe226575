use Rattle.iso_script_lexer.proofs.Pieces.{one_list}
use Rattle.iso_script.proofs.Unique.{one_reading}
use Rattle.iso_script.proofs.laws.places_are_unique.Goals as goal

pub returns : goal.returns
returns c = one_reading (λ row bytes ps qs a b. one_list a b)
