use Rattle.std.proofs.Common.{◌≤◌, length, take}
use Rattle.iso_floor.specs.Auditing.{IsAudited}
use Rattle.iso_floor.specs.Seats.{lists_of}
use Rattle.iso_floor.proofs.close.audit.Given as goal

abbrev pub invariant-loop-seat : goal.invariant-loop-seat
invariant-loop-seat g l = record {
  room : length l.history ≤ length l.marks;
  so_far : IsAudited l.history (lists_of (take l.seat-index l.seats)) l.marks l.lost;
}
