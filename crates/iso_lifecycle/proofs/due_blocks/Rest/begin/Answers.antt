use Rattle.std.proofs.Common.{◌≡◌, ◌∷◌, length, false, Option, ap, ◌∙◌, sym}
use Rattle.iso_model.specs.Bodies.{job_environment, stage_at, stage_from}
use Rattle.iso_model.specs.Environments.{Environment}
use Rattle.iso_model.specs.Steps.{Point, first_point, is_done}
use Rattle.iso_interp.specs.Runs.{local_of, names_before, pieces_of, point_of_run}
use Rattle.iso_interp.specs.declared.run.BlockRun.{BlockRun}
use Rattle.iso_lifecycle.specs.Heads.{heads_in}
use Rattle.iso_lifecycle.specs.JobPlaces.{job_at, jobs_from}
use Rattle.iso_lifecycle.specs.DueBlocks.{SameChain, account_in, beside_in, jobs_left, stage_with}
use Rattle.iso_lifecycle.proofs.Following.{entered, goes-on, has-first}
use Rattle.iso_lifecycle.proofs.WorkLemmas.{first-job, same-jobs, some-rights}
use Rattle.iso_lifecycle.proofs.due_blocks.Rest.begin.Goals as goal

pub returns-clause-begun : goal.returns-clause-begun
returns-clause-begun c =
    let old = c.args.self.now in
    let body = old.test in
    let job = job_at (heads_in old.classes.now) body c.args.job in
    let js = jobs_from (heads_in old.classes.now) body c.after-self.result in
    let jobs : jobs_left old ≡ job ∷ js = first-job old.classes.now body old.next c.after-self.result c.args.job old.placed c.requires.next c.after-self.ensures.next in
    let a = account_in old in
    let run = c.run_of-run.result in
    let after = c.environment.new.self in
    let chain = c.environment.ensures.chain in
    let b = beside_in after in
    let names = c.in_ok-names.ensures.names in
    let point : point_of_run run ≡ first_point job.acts (job_environment job a) =
    c.run_of-run.ensures.point ∙ (λ i. first_point (job_at (heads_in (chain.classes i).now) (chain.test i) c.args.job).acts (names i)) in
    let count : names_before run ≡ length (job_environment job a).names = c.run_of-run.ensures.names ∙ ap (λ (e : Environment). length e.names) names in
    let some : is_done (pieces_of run) ≡ false = ap (λ (p : Point). is_done p.pieces) point ∙ has-first job.acts (job_environment job a) c.requires.some in
    let kept : jobs_left after ≡ js = same-jobs chain c.environment.ensures.next in
    ap (λ (o : Option BlockRun). stage_with o after) c.put.ensures
    ∙ goes-on (stage_from (jobs_left after)) (pieces_of run) (local_of run) (names_before run) b (jobs_left after) some
    ∙ ap (λ xs. stage_at (stage_from xs) (pieces_of run) (local_of run) (names_before run) b xs) kept
    ∙ entered job js a (point_of_run run) (names_before run) b c.requires.due point count c.in_ok-names.ensures.beside
    ∙ ap (λ xs. stage_from xs a) (sym jobs)

pub returns-clause-rights : goal.returns-clause-rights
returns-clause-rights c =
    let chain = c.environment.ensures.chain in
    let same : SameChain c.args.self.now c.environment.new.self = record { rights = chain.rights; classes = chain.classes; test = chain.test } in
    some-rights c.put.new.block c.run_of-run.result c.args.self.now c.environment.new.self c.put.ensures same c.run_of-run.ensures.rights
