use Rattle.iso_hints.proofs.OrderLemmas.{near-ascends}
use Rattle.iso_hints.proofs.laws.near_words_stand_by_distance.Goals as goal

pub returns : goal.returns
returns c word candidates = near-ascends word candidates
