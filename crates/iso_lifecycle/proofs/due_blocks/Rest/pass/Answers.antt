use Rattle.std.proofs.Common.{◌≡◌, ◌∷◌, true≢false, ap, sym, ◌∙◌}
use Rattle.iso_model.specs.Bodies.{stage_from}
use Rattle.iso_lifecycle.specs.Heads.{heads_in}
use Rattle.iso_lifecycle.specs.JobPlaces.{job_at, jobs_from}
use Rattle.iso_lifecycle.specs.DueBlocks.{account_in, jobs_left}
use Rattle.iso_lifecycle.proofs.Following.{left-out, passed}
use Rattle.iso_lifecycle.proofs.WorkLemmas.{first-job}
use Rattle.iso_lifecycle.proofs.due_blocks.Rest.pass.Goals as goal

pub returns-then-not-is_due-clause-stage : goal.returns-then-not-is_due-clause-stage
returns-then-not-is_due-clause-stage c =
    let old = c.args.self.now in
    let body = old.test in
    let job = job_at (heads_in old.classes.now) body c.args.job in
    let js = jobs_from (heads_in old.classes.now) body c.after-next.result in
    let jobs : jobs_left old ≡ job ∷ js = first-job old.classes.now body old.next c.after-next.result c.args.job old.placed c.requires c.after-next.ensures.next in
    let a = account_in old in
    left-out job js a (sym c.is_due.ensures ∙ c.if-not-is_due.true) ∙ ap (λ xs. stage_from xs a) (sym jobs)

pub returns-then-not-is_due-clause-jobs : goal.returns-then-not-is_due-clause-jobs
returns-then-not-is_due-clause-jobs c =
    let old = c.args.self.now in
    let body = old.test in
    let job = job_at (heads_in old.classes.now) body c.args.job in
    let js = jobs_from (heads_in old.classes.now) body c.after-next.result in
    let jobs : jobs_left old ≡ job ∷ js = first-job old.classes.now body old.next c.after-next.result c.args.job old.placed c.requires c.after-next.ensures.next in
    λ e. jobs

pub returns-then-not-is_due-clause-next : goal.returns-then-not-is_due-clause-next
returns-then-not-is_due-clause-next c = λ e. absurd (true≢false e)

pub returns-then-not-is_due-clause-due : goal.returns-then-not-is_due-clause-due
returns-then-not-is_due-clause-due c = λ e. absurd (true≢false e)

pub returns-then-not-is_due-clause-some : goal.returns-then-not-is_due-clause-some
returns-then-not-is_due-clause-some c = λ e. absurd (true≢false e)

pub returns-then-not-is_empty-clause-jobs : goal.returns-then-not-is_empty-clause-jobs
returns-then-not-is_empty-clause-jobs c = λ e. absurd (true≢false (sym e))

pub returns-then-not-is_empty-clause-next : goal.returns-then-not-is_empty-clause-next
returns-then-not-is_empty-clause-next c = λ e. c.requires

pub returns-then-not-is_empty-clause-due : goal.returns-then-not-is_empty-clause-due
returns-then-not-is_empty-clause-due c = λ e. sym c.is_due.ensures ∙ c.if-not-is_due.false

pub returns-then-not-is_empty-clause-some : goal.returns-then-not-is_empty-clause-some
returns-then-not-is_empty-clause-some c = λ e. sym c.is_empty.ensures ∙ c.if-not-is_empty.true

pub returns-clause-stage : goal.returns-clause-stage
returns-clause-stage c =
    let old = c.args.self.now in
    let body = old.test in
    let job = job_at (heads_in old.classes.now) body c.args.job in
    let js = jobs_from (heads_in old.classes.now) body c.after-next.result in
    let jobs : jobs_left old ≡ job ∷ js = first-job old.classes.now body old.next c.after-next.result c.args.job old.placed c.requires c.after-next.ensures.next in
    let a = account_in old in
    let due = sym c.is_due.ensures ∙ c.if-not-is_due.false in
    let empty = sym c.is_empty.ensures ∙ c.if-not-is_empty.false in
    ap (λ es. stage_from js (record { names = old.names; printed = old.printed; lines = old.lines; endings = es })) c.in_ok-add.ensures.ok
    ∙ passed job js a due empty ∙ ap (λ xs. stage_from xs a) (sym jobs)

pub returns-clause-jobs : goal.returns-clause-jobs
returns-clause-jobs c =
    let old = c.args.self.now in
    let body = old.test in
    let job = job_at (heads_in old.classes.now) body c.args.job in
    let js = jobs_from (heads_in old.classes.now) body c.after-next.result in
    let jobs : jobs_left old ≡ job ∷ js = first-job old.classes.now body old.next c.after-next.result c.args.job old.placed c.requires c.after-next.ensures.next in
    λ e. jobs

pub returns-clause-next : goal.returns-clause-next
returns-clause-next c = λ e. absurd (true≢false e)

pub returns-clause-due : goal.returns-clause-due
returns-clause-due c = λ e. absurd (true≢false e)

pub returns-clause-some : goal.returns-clause-some
returns-clause-some c = λ e. absurd (true≢false e)
