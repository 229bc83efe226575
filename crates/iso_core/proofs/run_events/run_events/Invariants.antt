use Rattle.std.proofs.Common.{◌≡◌, take}
use Rattle.iso_core.specs.EventRuns.{AreAccepted, core_after}
use Rattle.iso_core.proofs.run_events.run_events.Given as goal

abbrev pub invariant-events : goal.invariant-events
invariant-events l = record {
  accepted : AreAccepted l.fn.plan l.fn.world l.fn.workers (take l.index l.events);
  core_is : l.core ≡ core_after l.fn.plan l.fn.world l.fn.workers (take l.index l.events);
}
