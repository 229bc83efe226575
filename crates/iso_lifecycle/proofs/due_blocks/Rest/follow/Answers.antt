use Rattle.std.proofs.Common.{Option, ap, sym, ◌∙◌}
use Rattle.iso_model.specs.Bodies.{stage_from}
use Rattle.iso_interp.specs.declared.run.BlockRun.{BlockRun}
use Rattle.iso_lifecycle.specs.DueBlocks.{account_in, jobs_in, stage_with}
use Rattle.iso_lifecycle.specs.declared.job.Job.{Job}
use Rattle.iso_lifecycle.proofs.WorkLemmas.{no-rights}
use Rattle.iso_lifecycle.proofs.due_blocks.Rest.follow.Goals as goal

pub returns-in_err-pass_empty-clause-rights : goal.returns-in_err-pass_empty-clause-rights
returns-in_err-pass_empty-clause-rights c = no-rights c.args.block.now c.args.self.now c.requires

pub returns-in_err-passed-clause-rights : goal.returns-in_err-passed-clause-rights
returns-in_err-passed-clause-rights c = no-rights c.loop-self.block c.args.self.now c.loop-self.invariant.none

pub begin-requires-clause-none : goal.begin-requires-clause-none
begin-requires-clause-none c = c.loop-self.invariant.none

pub returns-clause-stage : goal.returns-clause-stage
returns-clause-stage c =
    let r = c.loop-self.self in
    ap (λ (o : Option BlockRun). stage_with o r) c.loop-self.invariant.none
    ∙ ap (λ (o : Option Job). stage_from (jobs_in r o) (account_in r)) (sym c.in_default.is)
    ∙ c.loop-self.invariant.stage

pub returns-clause-rights : goal.returns-clause-rights
returns-clause-rights c = no-rights c.loop-self.block c.args.self.now c.loop-self.invariant.none
