use Rattle.std.proofs.Common.{◌+◌, ◌-◌, ◌*◌, length}
use Rattle.iso_record.specs.Recordings.{HasTaken, OfSameSuite, history_in}
use Rattle.iso_record.specs.SerialRuns.{HasRunSome}
use Rattle.iso_record.proofs.recording.Recording.+depth.Given as goal

abbrev pub invariant-children-children : goal.invariant-children-children
invariant-children-children l = record {
  same : OfSameSuite l.fn.self l.self;
  taken : HasTaken l.self (history_in l.self);
  some : HasRunSome l.fn.self.plan l.fn.self.world l.fn.self.workers l.class (history_in l.fn.self) l.child-index (history_in l.self);
}

abbrev pub decreases-children : goal.decreases-children
decreases-children l = 2 * (length l.plan.now.rows - l.class)

abbrev pub decreases-node : goal.decreases-node
decreases-node l = 2 * (length l.plan.now.rows - l.node) + 1
