use Rattle.std.proofs.Common.{◌+◌, ◌≤◌, length}
use Rattle.iso_model.specs.declared.limits.TheConstants.{FILE_BYTES}
use Rattle.iso_schedule.proofs.ReadSoFar.{IsReadTo}
use Rattle.iso_schedule.proofs.reader.read_schedule.Given as goal

abbrev pub invariant-lines : goal.invariant-lines
invariant-lines l = record {
  read : IsReadTo l.fn.bytes l.events.items l.number l.rest;
  counted : l.number + length l.rest ≤ FILE_BYTES + 1;
}

abbrev pub decreases-lines : goal.decreases-lines
decreases-lines l = length l.rest
