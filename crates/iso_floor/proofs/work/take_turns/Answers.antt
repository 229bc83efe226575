use Rattle.iso_floor.proofs.NextTurns.{entered-now, shut-now, stays-free}
use Rattle.iso_floor.proofs.work.take_turns.Goals as goal

pub turns-init : goal.turns-init
turns-init g c = stays-free c.args.seat.now (c.is_free.ensures c.if-not-is_free.false)

pub begin_entered-requires : goal.begin_entered-requires
begin_entered-requires g c = entered-now c.turn_of.result c.turn_of.new.seat c.turn_of.ensures c.in-Entered.node c.in-Entered.is

pub end_shut-requires : goal.end_shut-requires
end_shut-requires g c = shut-now c.turn_of.result c.turn_of.new.seat c.turn_of.ensures c.in-Shut.class c.in-Shut.is
