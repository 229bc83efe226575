use Rattle.std.proofs.Common.{◌-◌, List, length, Option, Some, arith, ap, sym, subst, ◌∙◌}
use Rattle.iso_model.specs.Bodies.{stage_from}
use Rattle.iso_model.specs.Jobs as J
use Rattle.iso_model.specs.declared.outcome.Ending.{Ending}
use Rattle.iso_lifecycle.specs.DueBlocks.{account_in, jobs_in}
use Rattle.iso_lifecycle.specs.JobPlaces.{IsPlaced}
use Rattle.iso_lifecycle.specs.declared.job.Job.{Job}
use Rattle.iso_lifecycle.specs.declared.job.Job.TheVariants.{BeforeEach}
use Rattle.iso_lifecycle.proofs.EmptyBlocks.{before-passed, before-placed, well_more}
use Rattle.iso_lifecycle.proofs.due_blocks.Rest.pass_before_from.Goals as goal

pub next_before_each-next-requires : goal.next_before_each-next-requires
next_before_each-next-requires c =
    let old = c.args.self.now in
    let placed : IsPlaced (length old.classes.now) (Some (BeforeEach c.args.depth)) = subst (λ (o : Option Job). IsPlaced (length old.classes.now) o) c.requires.next old.placed in
    omega (arith, placed)

pub returns-clause-stage : goal.returns-clause-stage
returns-clause-stage c =
    let old = c.args.self.now in
    let a = account_in old in
    let next = c.next_before_each-next.result in
    let found = c.next_before_each-next.ensures in
    let k = next - c.args.depth in
    ap (λ (es : List Ending). stage_from (jobs_in old (Some c.before-2.result)) (record { names = old.names; printed = old.printed; lines = old.lines; endings = es })) c.in_ok-add_well.ensures.ok
    ∙ ap (λ (j : Job). stage_from (jobs_in old (Some j)) (well_more k a)) c.before-2.ensures.job
    ∙ ap (λ (js : List J.Job). stage_from js (well_more k a)) (before-placed old.classes.now old.test a next found.within)
    ∙ before-passed old.classes.now old.test a c.args.depth next k (omega (arith, found.inwards)) found.within c.requires.well found.empty
    ∙ ap (λ (o : Option Job). stage_from (jobs_in old o) a) (sym c.requires.next)
