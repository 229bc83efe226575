-- What follows from an unchanged chain.
use Rattle.std.proofs.Common.{◌≡◌, ◌<◌, ◌+◌, ℕ, List, ◌∷◌, length, Option, Some, None, Bool, true, ap, sym, ◌∙◌, subst, arith, add-one}
use Rattle.std.proofs.lemmas.List.{length-map}
use Rattle.std.specs.Arc.{arc_value}
use Rattle.std.specs.declared.alloc.Global.{Global}
use Rattle.std.specs.declared.sync.Arc.{Arc}
use Rattle.iso_model.specs.Bodies.{account_after, stage_from}
use Rattle.iso_model.specs.Rights.{access_in}
use Rattle.iso_model.specs.ScriptView.{class_head_of}
use Rattle.iso_model.specs.Steps.{is_done}
use Rattle.iso_model.specs.Syntax.{Acts}
use Rattle.iso_model.specs.declared.heads.ClassHead.{ClassHead}
use Rattle.iso_interp.specs.Runs.{local_of, names_before, pieces_of, run_rights}
use Rattle.iso_interp.specs.declared.run.BlockRun.{BlockRun}
use Rattle.iso_lifecycle.specs.BodyRuns.{settled_with}
use Rattle.iso_lifecycle.specs.Heads.{heads_in}
use Rattle.iso_lifecycle.specs.JobPlaces.{IsPlaced, job_after, job_at, jobs_from}
use Rattle.iso_lifecycle.specs.DueBlocks.{HaveRights, SameChain, account_in, beside_in, jobs_left}
use Rattle.iso_lifecycle.specs.declared.job.Job.{Job}
use Rattle.iso_lifecycle.specs.declared.due_blocks.Rest.{Rest}
use Rattle.iso_lifecycle.proofs.Following.{passes}
use Rattle.iso_lifecycle.proofs.JobLemmas.{jobs-after}

-- the jobs that were left are this one and those after it
pub first-job : (classes : List (Arc ClassHead Global)) (body : Acts) (next after : Option Job) (j : Job) → IsPlaced (length classes) next → next ≡ Some j → after ≡ job_after (length classes) j
    → jobs_from (heads_in classes) body next ≡ job_at (heads_in classes) body j ∷ jobs_from (heads_in classes) body after
first-job classes body next after j placed is follows =
    let os = heads_in classes in
    let count : length os ≡ length classes = length-map classes (λ h. class_head_of (arc_value h)) in
    let here : IsPlaced (length os) (Some j) = subst (λ (n : ℕ). IsPlaced n (Some j)) (sym count) (subst (λ (o : Option Job). IsPlaced (length classes) o) is placed) in
    ap (jobs_from os body) is ∙ jobs-after os body j here
    ∙ ap (λ n. job_at os body j ∷ jobs_from os body (job_after n j)) count
    ∙ ap (λ o. job_at os body j ∷ jobs_from os body o) (sym follows)

pub same-jobs : {r s : Rest} → SameChain r s → s.next ≡ r.next → jobs_left s ≡ jobs_left r
same-jobs {r} {s} chain next = λ i. jobs_from (heads_in (chain.classes i).now) (chain.test i) (next i)

pub shorter : {A : Type 0} (x : A) (xs ys : List A) → xs ≡ x ∷ ys → length ys < length xs
shorter x xs ys e = let h : length xs ≡ length ys + 1 = ap length e ∙ sym (add-one (length ys)) in omega arith

-- a block that has ended is left, and the jobs after it are to be begun
pub left-ended : (run : BlockRun) (rest after : Rest) → is_done (pieces_of run) ≡ true → SameChain rest after → after.next ≡ rest.next
    → account_in after ≡ account_after (names_before run) (local_of run) (beside_in rest) → stage_from (jobs_left after) (account_in after) ≡ settled_with (Some run) rest
left-ended run rest after none chain next account =
    (λ i. stage_from (same-jobs chain next i) (account i))
    ∙ passes (stage_from (jobs_left rest)) (pieces_of run) (local_of run) (names_before run) (beside_in rest) (jobs_left rest) none

abbrev ends : Option BlockRun → Bool
ends None = true
ends (Some run) = is_done (pieces_of run)

-- the same of the block that stands in a place
pub settled-once-ended : (block : Option BlockRun) (seen run : BlockRun) (rest after : Rest) → block ≡ Some seen → is_done (pieces_of seen) ≡ true → block ≡ Some run → SameChain rest after
    → after.next ≡ rest.next → account_in after ≡ account_after (names_before run) (local_of run) (beside_in rest) → stage_from (jobs_left after) (account_in after) ≡ settled_with block rest
settled-once-ended block seen run rest after there done taken chain next account =
    left-ended run rest after (ap ends (sym taken ∙ there) ∙ done) chain next account ∙ ap (λ (o : Option BlockRun). settled_with o rest) (sym taken)

-- a block with the body's rights has them where the chain is the same; where there is none, nothing has to
pub no-rights : (block : Option BlockRun) (rest : Rest) → block ≡ None → HaveRights block rest
no-rights block rest none = subst (λ (o : Option BlockRun). HaveRights o rest) (sym none) tt

pub some-rights : (block : Option BlockRun) (run : BlockRun) (rest after : Rest) → block ≡ Some run → SameChain rest after → run_rights run ≡ access_in after.rights.now → HaveRights block rest
some-rights block run rest after is chain rights =
    subst (λ (o : Option BlockRun). HaveRights o rest) (sym is) (λ k i. (rights ∙ ap (λ r. access_in r.now) chain.rights) i k)

pub rights-before : (block : Option BlockRun) (rest after : Rest) → SameChain rest after → HaveRights block after → HaveRights block rest
rights-before None rest after chain rights = tt
rights-before (Some run) rest after chain rights = λ k i. ((λ j. rights k j) ∙ ap (λ r. access_in r.now k) chain.rights) i
