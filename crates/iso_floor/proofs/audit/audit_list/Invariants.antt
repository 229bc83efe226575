use Rattle.std.proofs.Common.{◌≤◌, length, take}
use Rattle.iso_floor.specs.Auditing.{GoesOnBy}
use Rattle.iso_floor.proofs.AuditLemmas.{IsHighest}
use Rattle.iso_floor.proofs.audit.audit_list.Given as goal

abbrev pub invariant-loop-receipt : goal.invariant-loop-receipt
invariant-loop-receipt l = record {
  room : length l.history ≤ length l.marks;
  on : GoesOnBy l.history l.fn.marks l.fn.lost (take l.receipt-index l.list) l.marks l.lost;
  high : IsHighest (take l.receipt-index l.list) l.highest;
}
