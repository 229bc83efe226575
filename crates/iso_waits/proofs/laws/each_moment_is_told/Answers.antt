use Rattle.iso_waits.proofs.TurnLemmas.{each-told}
use Rattle.iso_waits.proofs.laws.each_moment_is_told.Goals as goal

pub returns : goal.returns
returns c holder from until t = each-told holder from until t
