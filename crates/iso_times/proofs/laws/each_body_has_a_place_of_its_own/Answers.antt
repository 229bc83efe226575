use Rattle.iso_times.proofs.Places.{node-of-place, place-within}
use Rattle.iso_times.proofs.laws.each_body_has_a_place_of_its_own.Goals as goal

pub returns-clause-nodes : goal.returns-clause-nodes
returns-clause-nodes c = node-of-place

pub returns-clause-within : goal.returns-clause-within
returns-clause-within c = place-within
