use Rattle.iso_floor.proofs.NextTurns.{found-free, turned-free}
use Rattle.iso_floor.proofs.work.turn_of.Goals as goal

pub returns-in-Some : goal.returns-in-Some
returns-in-Some g c = found-free c.args.next c.in-Some.turn c.args.seat.now c.in-Some.is c.requires

pub returns-in-None : goal.returns-in-None
returns-in-None g c = turned-free c.args.next c.take_turn.result c.args.seat.now c.take_turn.new.seat c.in-None.is c.requires c.take_turn.ensures
