use Rattle.std.proofs.Common.{◌≡◌, None, length}
use Rattle.iso_model.specs.Bodies.{stage_from}
use Rattle.iso_lifecycle.specs.DueBlocks.{SameChain, account_in, jobs_left}
use Rattle.iso_lifecycle.proofs.due_blocks.Rest.follow.Given as goal

abbrev pub invariant-loop-self : goal.invariant-loop-self
invariant-loop-self l = record {
  chain : SameChain l.fn.self l.self;
  stage : stage_from (jobs_left l.self) (account_in l.self) ≡ stage_from (jobs_left l.fn.self) (account_in l.fn.self);
  none : l.block ≡ None;
}

abbrev pub decreases-loop-self : goal.decreases-loop-self
decreases-loop-self l = length (jobs_left l.self)
