use Rattle.std.proofs.Common.{◌≡◌, ◌≤◌, length, drop, None}
use Rattle.iso_floor.specs.Audits.{last_begun}
use Rattle.iso_floor.proofs.audit.last_begun_by.Given as goal

abbrev pub invariant-loop-end : goal.invariant-loop-end
invariant-loop-end l = record {
  within : l.end ≤ length l.events;
  none_after : last_begun l.worker (drop l.end l.events) ≡ None;
}

abbrev pub decreases-loop-end : goal.decreases-loop-end
decreases-loop-end l = l.end
