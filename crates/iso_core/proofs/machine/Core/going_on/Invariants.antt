use Rattle.std.proofs.Common.{ℕ, ◌<◌}
use Rattle.iso_core.specs.Progress.{Refuses}
use Rattle.iso_standing.specs.declared.event.Event.TheVariants as Event
use Rattle.iso_core.proofs.machine.Core.going_on.Given as goal

abbrev pub invariant-workers : goal.invariant-workers
invariant-workers l = (w : ℕ) → w < l.worker → Refuses l.self (Event.Step w) × Refuses l.self (Event.Leave w)
