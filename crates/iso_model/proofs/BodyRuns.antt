-- What is left of a body, done, is the same before and after a step, and from its beginning it is all its jobs.
use Rattle.std.proofs.Common.{◌≡◌, ℕ, zero, suc, ◌+◌, ◌<◌, ◌≤◌, List, [], ◌∷◌, ◌++◌, length, drop, append-nil, Option, Some, None, Bool, true, false, cond, refl, ap, ◌∙◌, arith, true≢false}
use Rattle.std.proofs.Math.Seq.{take-length}
use Rattle.iso_model.specs.Blocks.{begun, block}
use Rattle.iso_model.specs.Chains.{ClassHead, TestHead, class_rights, test_rights}
use Rattle.iso_model.specs.Disabled.{acts_unless, block_unless}
use Rattle.iso_model.specs.Environments.{environment}
use Rattle.iso_model.specs.Resources.{Resources}
use Rattle.iso_model.specs.Rights.{Rights}
use Rattle.iso_model.specs.Statements.{Local, State}
use Rattle.iso_model.specs.Steps.{Piece, IsReady, finish, finished, first_point, machine_at, point, some_left, step, distance, rest}
use Rattle.iso_model.specs.Syntax.{Acts}
use Rattle.iso_model.specs.Openings.{Opening, statics_of, words_of, before_all, opened}
use Rattle.iso_model.specs.Alone.{after_all}
use Rattle.iso_model.specs.Tests.{Body, before_each, after_each, begun_test, blocks_of_test, blocks_unless, test, test_names}
use Rattle.iso_model.specs.Jobs.{Job, job, is_due, with_job, with_due, with_jobs, body_of_block, opening_names, after_all_jobs, before_each_job, test_job, before_each_jobs, after_each_jobs, test_jobs}
use Rattle.iso_model.specs.Bodies.{Account, body_at, fresh_account, Beside, Stage, during, ended, Going, job_environment, beside_job, account_after, stage_at, stage_if, stage_from, stage_unless, opening_stage, test_stage, closing_stage, stage_step, body_step, body_steps, body_finish, body_finished, is_ended, jobs_distance, body_distance, IsReadyStage, frame_left}
use Rattle.iso_model.specs.declared.limits.TheConstants.{BLOCK_STEPS}
use Rattle.iso_model.specs.declared.names.Binding.{Binding}
use Rattle.iso_model.specs.declared.place.BlockName.{BlockName}
use Rattle.iso_model.specs.declared.place.Lifecycle.TheVariants.{BeforeAll, AfterAll}
use Rattle.iso_model.proofs.Ends.{next-steps, step-ready, step-distance}
use Rattle.iso_model.proofs.Finishing.{finish-step}
use Rattle.iso_model.proofs.LawLemmas.{block-finished, first-ready}

abbrev state_at : Local → Resources → State
state_at l m = record { here = l; resources = m }

-- what a body has once its block came to this state
abbrev body_after : ℕ → Beside → State → Body
body_after n b s = body_at (account_after n s.here b) s.resources

-- a job that is done
job-done : (r : Rights) (j : Job) (a : Account) (m : Resources)
    → let env = job_environment j a in
    body_after (length env.names) (beside_job j a) (finished r (machine_at (first_point j.acts env) m)) ≡ with_job r j (body_at a m)
job-done r j a m =
    let env = job_environment j a in
    let b = beside_job j a in
    ap (λ (s : State). body_at (record { names = s.here.env.names ++ b.unseen; printed = s.here.env.printed; lines = b.lines ++ s.here.lines; endings = b.endings ++ s.here.ending ∷ [] })
    s.resources) (block-finished r j.acts env m)

-- jobs that begin with an account come to these jobs
abbrev Come : Rights → List Job → Type 0
Come r js = (a : Account) (m : Resources) → body_finish r (stage_from js a) m ≡ with_jobs r js (body_at a m)

-- a block that goes on, or has nothing left, comes to its end and the jobs after it
at-finish : (r : Rights) (js : List Job) → Come r js → (ps : List Piece) (l : Local) (n : ℕ) (b : Beside) (m : Resources)
    → body_finish r (stage_at (stage_from js) ps l n b js) m ≡ with_jobs r js (body_after n b (finish r ps (state_at l m)))
at-finish r js come [] l n b m = come (account_after n l b) m
at-finish r js come (p ∷ ps) l n b m = refl

if-finish : (r : Rights) (js : List Job) → Come r js → (j : Job) (a : Account) (m : Resources) (due : Bool)
    → body_finish r (stage_if due (stage_from js) j js a) m ≡ with_jobs r js (cond due (with_job r j (body_at a m)) (body_at a m))
if-finish r js come j a m false = come a m
if-finish r js come j a m true =
    let env = job_environment j a in
    let p = first_point j.acts env in
    at-finish r js come p.pieces p.here (length env.names) (beside_job j a) m ∙ ap (with_jobs r js) (job-done r j a m)

pub from-finish : (r : Rights) (js : List Job) (a : Account) (m : Resources) → body_finish r (stage_from js a) m ≡ with_jobs r js (body_at a m)
from-finish r [] a m = refl
from-finish r (j ∷ js) a m = if-finish r js (from-finish r js) j a m (is_due j a.endings)

-- what is left, done, is the same before and after a step
stage-step-finish : (r : Rights) (stage : Stage) (m : Resources) → body_finished r (stage_step r stage m) ≡ body_finish r stage m
stage-step-finish r (during p n b js) m =
    let x = step r (machine_at p m) in
    at-finish r js (from-finish r js) x.pieces x.state.here n b x.state.resources
    ∙ ap (λ (s : State). with_jobs r js (body_after n b s)) (finish-step r (machine_at p m))
stage-step-finish r (ended a) m = refl

pub body-step-finish : (r : Rights) (g : Going) → body_finished r (body_step r g) ≡ body_finished r g
body-step-finish r g = stage-step-finish r g.stage g.resources

pub body-steps-finish : (r : Rights) (n : ℕ) (g : Going) → body_finished r (body_steps r n g) ≡ body_finished r g
body-steps-finish r zero g = refl
body-steps-finish r (suc n) g = body-step-finish r (body_steps r n g) ∙ body-steps-finish r n g

-- the jobs of a test are the test
with_jobs-append : (r : Rights) (xs ys : List Job) (b : Body) → with_jobs r (xs ++ ys) b ≡ with_jobs r ys (with_jobs r xs b)
with_jobs-append r [] ys b = refl
with_jobs-append r (j ∷ xs) ys b = with_jobs-append r xs ys (with_due r j b)

before-jobs : (r : Rights) (cs : List ClassHead) (b : Body) → with_jobs r (before_each_jobs cs) b ≡ before_each r cs b
before-jobs r [] b = refl
before-jobs r (c ∷ cs) b =
    with_jobs-append r (before_each_jobs cs) (before_each_job c cs ∷ []) b ∙ ap (with_due r (before_each_job c cs)) (before-jobs r cs b)

after-jobs : (r : Rights) (cs : List ClassHead) (b : Body) → with_jobs r (after_each_jobs cs) b ≡ after_each r cs b
after-jobs r [] b = refl
after-jobs r (c ∷ cs) b = after-jobs r cs _

pub test-jobs : (t : TestHead) (cs : List ClassHead) (o : Opening) → with_jobs (test_rights t cs) (test_jobs t cs) (begun_test cs o) ≡ blocks_of_test t cs (begun_test cs o)
test-jobs t cs o =
    let r = test_rights t cs in
    let b = begun_test cs o in
    with_jobs-append r (before_each_jobs cs) (test_job t cs ∷ after_each_jobs cs) b
    ∙ after-jobs r cs (with_due r (test_job t cs) (with_jobs r (before_each_jobs cs) b))
    ∙ ap (λ (d : Body). after_each r cs (with_due r (test_job t cs) d)) (before-jobs r cs b)

-- a body of one block, which sees all its names
drop-all : {A : Type 0} (xs : List A) → drop (length xs) xs ≡ []
drop-all [] = refl
drop-all (x ∷ xs) = drop-all xs

one-job : (r : Rights) (words : BlockName) (acts : Acts) (names : List Binding) (m : Resources)
    → with_job r (record { words = words; acts = acts; seen = length names; needs_well = false }) (body_at (fresh_account names) m)
    ≡ body_of_block (block r acts (environment names 0 words) m)
one-job r words acts names m =
    let whole : List Binding → State = λ (bs : List Binding). block r acts (environment bs 0 words) m in
    (λ i. record {
      names = (whole (take-length names i)).here.env.names ++ drop-all names i;
      resources = (whole (take-length names i)).resources;
      printed = (whole (take-length names i)).here.env.printed;
      lines = (whole (take-length names i)).here.lines;
      endings = (whole (take-length names i)).here.ending ∷ [];
    })
    ∙ ap (λ (bs : List Binding). record (body_of_block (whole names)) { names = bs }) (append-nil (whole names).here.env.names)

-- from its beginning a body is the test, the `before_all` and the `after_all`
test-finish_unless : (d : Option (List ℕ)) (t : TestHead) (cs : List ClassHead) (o : Opening)
    → body_finish (test_rights t cs) (stage_unless d (test_names cs o.frames) (test_jobs t cs)) o.resources ≡ blocks_unless d (blocks_of_test t cs) (begun_test cs o)
test-finish_unless None t cs o = from-finish (test_rights t cs) (test_jobs t cs) (fresh_account (test_names cs o.frames)) o.resources ∙ test-jobs t cs o
test-finish_unless (Some reason) t cs o = refl

pub test-finish : (t : TestHead) (cs : List ClassHead) (o : Opening) → body_finish (test_rights t cs) (test_stage t cs o.frames) o.resources ≡ test t cs o
test-finish t cs o = test-finish_unless t.disabled t cs o

opening-finish_unless : (d : Option (List ℕ)) (r : Rights) (words : BlockName) (acts : Acts) (names : List Binding) (m : Resources)
    → body_finish r (stage_unless d names (job words acts (length names) false ∷ [])) m ≡ body_of_block (block_unless d r acts (environment names 0 words) m)
opening-finish_unless None r words acts names m = from-finish r (job words acts (length names) false ∷ []) (fresh_account names) m ∙ one-job r words acts names m
opening-finish_unless (Some reason) r words acts names m = refl

pub opening-finish : (c : ClassHead) (cs : List ClassHead) (o : Opening)
    → body_finish (class_rights (c ∷ cs)) (opening_stage c cs o.frames) o.resources ≡ body_of_block (before_all c cs o)
opening-finish c cs o = opening-finish_unless c.disabled (class_rights (c ∷ cs)) (words_of (c ∷ cs) BeforeAll) c.before_all (opening_names c o.frames) o.resources

pub closing-finish : (c : ClassHead) (cs : List ClassHead) (o : Opening)
    → body_finish (class_rights (c ∷ cs)) (closing_stage c cs o.frames) o.resources ≡ body_of_block (after_all c cs o)
closing-finish c cs o =
    let r = class_rights (c ∷ cs) in
    let names = statics_of o.frames in
    from-finish r (after_all_jobs c cs o.frames) (fresh_account names) o.resources
    ∙ one-job r (words_of (c ∷ cs) AfterAll) (acts_unless c.disabled c.after_all) names o.resources

pub opening-frame : (c : ClassHead) (cs : List ClassHead) (o : Opening)
    → frame_left o.frames (body_finish (class_rights (c ∷ cs)) (opening_stage c cs o.frames) o.resources) ∷ o.frames ≡ (opened o (before_all c cs o)).frames
opening-frame c cs o = ap (λ (b : Body). frame_left o.frames b ∷ o.frames) (opening-finish c cs o)

-- every point that is come to is ready
at-ready : (js : List Job) → ((a : Account) → IsReadyStage (stage_from js a)) → (ps : List Piece) (l : Local) (n : ℕ) (b : Beside)
    → IsReady (point ps l) → IsReadyStage (stage_at (stage_from js) ps l n b js)
at-ready js follows [] l n b ready = follows (account_after n l b)
at-ready js follows (p ∷ ps) l n b ready = record { ready = ready; some = refl }

if-ready : (js : List Job) → ((a : Account) → IsReadyStage (stage_from js a)) → (j : Job) (a : Account) (due : Bool)
    → IsReadyStage (stage_if due (stage_from js) j js a)
if-ready js follows j a false = follows a
if-ready js follows j a true =
    let env = job_environment j a in
    let p = first_point j.acts env in
    at-ready js follows p.pieces p.here (length env.names) (beside_job j a) (first-ready j.acts env)

pub from-ready : (js : List Job) (a : Account) → IsReadyStage (stage_from js a)
from-ready [] a = tt
from-ready (j ∷ js) a = if-ready js (from-ready js) j a (is_due j a.endings)

pub unless-ready : (d : Option (List ℕ)) (names : List Binding) (js : List Job) → IsReadyStage (stage_unless d names js)
unless-ready None names js = from-ready js (fresh_account names)
unless-ready (Some reason) names js = tt

stage-step-ready : (r : Rights) (stage : Stage) (m : Resources) → IsReadyStage stage → IsReadyStage (stage_step r stage m).stage
stage-step-ready r (during p n b js) m ready =
    let x = step r (machine_at p m) in
    at-ready js (from-ready js) x.pieces x.state.here n b (step-ready r (machine_at p m) ready.ready)
stage-step-ready r (ended a) m ready = tt

pub body-step-ready : (r : Rights) (g : Going) → IsReadyStage g.stage → IsReadyStage (body_step r g).stage
body-step-ready r g ready = stage-step-ready r g.stage g.resources ready

pub body-steps-ready : (r : Rights) (n : ℕ) (g : Going) → IsReadyStage g.stage → IsReadyStage (body_steps r n g).stage
body-steps-ready r zero g ready = ready
body-steps-ready r (suc n) g ready = body-step-ready r (body_steps r n g) (body-steps-ready r n g ready)

-- a step brings the end nearer
some-le : (ps : List Piece) → some_left ps ≤ 1
some-le [] = omega arith
some-le (p ∷ ps) = omega arith

at-distance : (js : List Job) → ((a : Account) → body_distance (stage_from js a) ≤ jobs_distance js) → (ps : List Piece) (l : Local) (n : ℕ) (b : Beside)
    → body_distance (stage_at (stage_from js) ps l n b js) ≤ l.env.steps + some_left ps + jobs_distance js
at-distance js follows [] l n b = let h = follows (account_after n l b) in omega arith
at-distance js follows (p ∷ ps) l n b = omega arith

if-distance : (js : List Job) → ((a : Account) → body_distance (stage_from js a) ≤ jobs_distance js) → (j : Job) (a : Account) (due : Bool)
    → body_distance (stage_if due (stage_from js) j js a) ≤ BLOCK_STEPS + 1 + jobs_distance js
if-distance js follows j a false = let h = follows a in omega arith
if-distance js follows j a true =
    let env = job_environment j a in
    let p = first_point j.acts env in
    let h = at-distance js follows p.pieces p.here (length env.names) (beside_job j a) in
    let one = some-le p.pieces in
    let steps : p.here.env.steps ≡ BLOCK_STEPS = next-steps (rest (length env.names) j.acts ∷ []) (begun env) in
    omega arith

pub from-distance : (js : List Job) (a : Account) → body_distance (stage_from js a) ≤ jobs_distance js
from-distance [] a = omega arith
from-distance (j ∷ js) a = if-distance js (from-distance js) j a (is_due j a.endings)

stage-step-distance : (r : Rights) (stage : Stage) (m : Resources) → IsReadyStage stage → is_ended stage ≡ false
    → body_distance (stage_step r stage m).stage < body_distance stage
stage-step-distance r (during p n b js) m ready some =
    let x = step r (machine_at p m) in
    let h = at-distance js (from-distance js) x.pieces x.state.here n b in
    let less : distance x < distance (machine_at p m) = step-distance r (machine_at p m) ready.ready ready.some in
    omega arith
stage-step-distance r (ended a) m ready some = absurd (true≢false some)

pub body-step-distance : (r : Rights) (g : Going) → IsReadyStage g.stage → is_ended g.stage ≡ false
    → body_distance (body_step r g).stage < body_distance g.stage
body-step-distance r g ready some = stage-step-distance r g.stage g.resources ready some
