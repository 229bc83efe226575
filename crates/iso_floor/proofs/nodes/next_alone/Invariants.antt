use Rattle.iso_floor.specs.Successions.{AreConcurrent}
use Rattle.iso_floor.proofs.nodes.next_alone.Given as goal

abbrev pub invariant-children : goal.invariant-children
invariant-children l = AreConcurrent l.plan l.children l.from l.place
