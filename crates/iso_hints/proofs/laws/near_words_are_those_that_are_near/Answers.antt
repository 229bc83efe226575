use Rattle.iso_hints.proofs.OrderLemmas.{near-moves}
use Rattle.iso_hints.proofs.laws.near_words_are_those_that_are_near.Goals as goal

pub returns : goal.returns
returns c word candidates = near-moves word candidates
