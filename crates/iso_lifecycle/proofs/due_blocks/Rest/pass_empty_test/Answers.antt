use Rattle.std.proofs.Common.{List, Option, ap, sym, ◌∙◌}
use Rattle.iso_model.specs.Bodies.{stage_from}
use Rattle.iso_model.specs.declared.outcome.Ending.{Ending}
use Rattle.iso_lifecycle.specs.DueBlocks.{account_in, jobs_in}
use Rattle.iso_lifecycle.specs.declared.job.Job.{Job}
use Rattle.iso_lifecycle.proofs.EmptyBlocks.{test-passed, well_more}
use Rattle.iso_lifecycle.proofs.due_blocks.Rest.pass_empty_test.Goals as goal

pub returns-clause-stage : goal.returns-clause-stage
returns-clause-stage c =
    let old = c.args.self.now in
    let a = account_in old in
    ap (λ (es : List Ending). stage_from (jobs_in old c.innermost-self.result) (record { names = old.names; printed = old.printed; lines = old.lines; endings = es })) c.in_ok-add_well.ensures.ok
    ∙ ap (λ (o : Option Job). stage_from (jobs_in old o) (well_more 1 a)) c.innermost-self.ensures.next
    ∙ test-passed old.classes.now old.test a c.requires.well c.requires.empty
    ∙ ap (λ (o : Option Job). stage_from (jobs_in old o) a) (sym c.requires.next)
