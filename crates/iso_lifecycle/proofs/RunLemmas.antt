-- A body's step is that of its block.
use Rattle.std.proofs.Common.{◌≡◌, List, [], ◌∷◌, Option, Some, None, true, false, refl, sym, ap, ◌∙◌, subst, true≢false}
use Rattle.iso_model.specs.Bodies.{Stage, account_of, ended, is_ended, body_step, going, going_at, stage_at, stage_from}
use Rattle.iso_model.specs.Resources.{Resources}
use Rattle.iso_model.specs.Rights.{Rights, access_in}
use Rattle.iso_model.specs.Steps.{Machine, Piece, is_done, step}
use Rattle.iso_interp.specs.Runs.{local_of, machine_of, names_before, pieces_of, progress_of, run_rights}
use Rattle.iso_interp.specs.declared.run.BlockRun.{BlockRun}
use Rattle.iso_interp.specs.declared.run.Progress.TheVariants.{More}
use Rattle.iso_lifecycle.specs.BodyRuns.{account_in_run, settled_with, stage_of}
use Rattle.iso_lifecycle.specs.declared.body_run.BodyRun.{BodyRun}
use Rattle.iso_lifecycle.specs.DueBlocks.{HaveRights, account_in, beside_in, jobs_left, stage_with}
use Rattle.iso_lifecycle.specs.declared.due_blocks.Rest.{Rest}
use Rattle.iso_lifecycle.proofs.Following.{goes-on}
use Rattle.iso_lifecycle.specs.Origins.{HasCome, done_whole}
use Rattle.iso_lifecycle.specs.Subjects.{Subject}
use Rattle.iso_lifecycle.specs.declared.kind.BodyKind.{BodyKind}

more-left : (ps : List Piece) → progress_of ps ≡ More → is_done ps ≡ false
more-left [] e = cc
more-left (p ∷ ps) e = refl

-- the rights of a block under way are the body's
pub block-rights : (block : Option BlockRun) (run : BlockRun) (rest : Rest) → block ≡ Some run → HaveRights block rest → run_rights run ≡ access_in rest.rights.now
block-rights block run rest is same = λ i k. subst (λ (o : Option BlockRun). HaveRights o rest) is same k i

-- with a block that made a step
pub block-stepped : (r q : Rights) (block : Option BlockRun) (run new : BlockRun) (rest : Rest) (m n : Resources) → block ≡ Some run → q ≡ r
    → machine_of new n ≡ step q (machine_of run m) → names_before new ≡ names_before run
    → going (settled_with (Some new) rest) n ≡ body_step r (going (stage_with block rest) m)
block-stepped r q block run new rest m n is same stepped count =
    (λ i. going (stage_at (stage_from (jobs_left rest)) (pieces_of new) (local_of new) (count i) (beside_in rest) (jobs_left rest)) n)
    ∙ ap (λ (x : Machine). going_at x (names_before run) (beside_in rest) (jobs_left rest)) stepped
    ∙ ap (λ (p : Rights). going_at (step p (machine_of run m)) (names_before run) (beside_in rest) (jobs_left rest)) same
    ∙ ap (λ (o : Option BlockRun). body_step r (going (stage_with o rest) m)) (sym is)

-- while something is left of it
pub block-goes_on : (new : BlockRun) (rest : Rest) (n : Resources) → progress_of (pieces_of new) ≡ More → going (stage_with (Some new) rest) n ≡ going (settled_with (Some new) rest) n
block-goes_on new rest n more =
    ap (λ (s : Stage). going s n) (goes-on (stage_from (jobs_left rest)) (pieces_of new) (local_of new) (names_before new) (beside_in rest) (jobs_left rest) (more-left (pieces_of new) more))

-- a block that does nothing has the body's rights
pub stopped-rights : (block : Option BlockRun) (idle : BlockRun) (rest : Rest) → block ≡ Some idle → run_rights idle ≡ access_in rest.rights.now → HaveRights block rest
stopped-rights block idle rest is same = subst (λ (o : Option BlockRun). HaveRights o rest) (sym is) (λ k i. same i k)

ended-with : (block : Option BlockRun) (rest : Rest) → is_ended (stage_with block rest) ≡ true → stage_with block rest ≡ ended (account_in rest)
ended-with None rest ends = refl
ended-with (Some run) rest ends = absurd (true≢false (sym ends))

-- an ended body came to what it comes to, done whole
pub come-account : (kind : BodyKind) (s : Subject) (run : BodyRun) → is_ended (stage_of run) ≡ true → HasCome kind s (stage_of run) → account_in_run run ≡ account_of (done_whole kind s)
come-account kind s run ends come = subst (λ (g : Stage). HasCome kind s g) (ended-with run.block run.rest ends) come
