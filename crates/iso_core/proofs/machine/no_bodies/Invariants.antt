use Rattle.std.proofs.Common.{◌≡◌, None, replicate}
use Rattle.iso_core.proofs.machine.no_bodies.Given as goal

abbrev pub invariant-workers : goal.invariant-workers
invariant-workers l = l.bodies.items ≡ replicate l._worker None
