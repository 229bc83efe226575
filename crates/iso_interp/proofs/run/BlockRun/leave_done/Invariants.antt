use Rattle.std.proofs.Common.{◌≡◌, ◌+◌, length, vec_len, option_to_list}
use Rattle.iso_model.specs.Steps.{leave_done}
use Rattle.iso_interp.specs.Runs.{SameBlock, local_of, pieces_of}
use Rattle.iso_interp.proofs.run.BlockRun.leave_done.Given as goal

abbrev pub invariant-loop-self : goal.invariant-loop-self
invariant-loop-self l = record {
  left : leave_done (pieces_of l.self) (local_of l.self) ≡ leave_done (pieces_of l.initial.self) (local_of l.initial.self);
  block : SameBlock l.initial.self l.self;
}

abbrev pub decreases-loop-self : goal.decreases-loop-self
decreases-loop-self l = length (option_to_list l.self.top) + vec_len l.self.below
