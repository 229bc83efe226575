use Rattle.std.proofs.Common.{subst, sym}
use Rattle.iso_floor.specs.Desks.{IsOpenFor}
use Rattle.iso_floor.proofs.seat.Seat.open_up.Goals as goal

pub open_up-requires : goal.open_up-requires
open_up-requires g c = subst (IsOpenFor c.args.desk.now.book c.args.class) (sym c.worker-worker.ensures) c.requires
