use Rattle.iso_times.proofs.FirstBegins.{first-next}
use Rattle.iso_times.proofs.times.first_begin.Goals as goal

pub bodies-preserved : goal.bodies-preserved
bodies-preserved c = first-next c.args.bodies.now c.bodies.body-index c.bodies.first c.earlier-first.result c.bodies-test.true c.bodies.invariant c.earlier-first.ensures
