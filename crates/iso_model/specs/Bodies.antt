-- Bodies, one step at a time: the block under way, the jobs after it, and the step that does what
-- is left first. A chain is a list of class heads, innermost first.
--
-- single steps of a body: A block under way with what the body has beside it, and the jobs after it
-- (`Stage`); a step is the block's own, after which the next block begins that has something to do
-- (`body_step`); what doing all that is left comes to (`body_finish`). Absent and empty blocks take
-- no step. The body of a disabled test, and of a disabled class's `before_all`, has ended where it
-- begins (`stage_unless`, `disabled_account`). An ended body stays as it is.
use Rattle.std.specs.Prelude.{◌≡◌, ℕ, zero, suc, ◌+◌, List, [], ◌∷◌, ◌++◌, length, take, drop, Option, Some, None, Bool, true, false}
use Rattle.iso_model.specs.Rights.{Rights}
use Rattle.iso_model.specs.Resources.{Resources}
use Rattle.iso_model.specs.Statements.{Local}
use Rattle.iso_model.specs.Steps.{Piece, Point, Machine, IsReady, first_point, finish, is_done, machine_at, point, some_left, step}
use Rattle.iso_model.specs.Environments.{Environment, environment}
use Rattle.iso_model.specs.Chains.{ClassHead, TestHead}
use Rattle.iso_model.specs.Disabled.{disabled_ending}
use Rattle.iso_model.specs.Names.{frozen}
use Rattle.iso_model.specs.Openings.{Frame, statics_of}
use Rattle.iso_model.specs.Tests.{Body, test_names}
use Rattle.iso_model.specs.Jobs.{Job, is_due, with_jobs, opening_names, before_all_jobs, after_all_jobs, test_jobs}
use Rattle.iso_model.specs.declared.limits.TheConstants.{BLOCK_STEPS}
use Rattle.iso_model.specs.declared.names.Binding.{Binding}
use Rattle.iso_model.specs.declared.outcome.Ending.{Ending}
use Rattle.iso_model.specs.declared.outcome.Ending.TheVariants.{Well}

-- what a body has but for the resources: its names, the bytes and lines printed, the endings of its
-- blocks so far
pub record Account : Type 0 where
  pub names : List Binding
  pub printed : ℕ
  pub lines : List (List ℕ)
  pub endings : List Ending

abbrev pub account_of : Body → Account
account_of b = record { names = b.names; printed = b.printed; lines = b.lines; endings = b.endings }

abbrev pub body_at : Account → Resources → Body
body_at a m = record {
  names = a.names;
  resources = m;
  printed = a.printed;
  lines = a.lines;
  endings = a.endings;
}

-- a body that has done nothing yet, with these names
abbrev pub fresh_account : List Binding → Account
fresh_account names = record { names = names; printed = 0; lines = []; endings = [] }

-- a body of a disabled node, with these names: it has ended where it begins
abbrev pub disabled_account : List ℕ → List Binding → Account
disabled_account reason names =
    record (fresh_account names) { endings = disabled_ending reason ∷ [] }

-- what a body has beside its block under way: the names that the block doesn't see, and the lines
-- and endings of the blocks before it
pub record Beside : Type 0 where
  pub unseen : List Binding
  pub lines : List (List ℕ)
  pub endings : List Ending

-- a point of a body between its steps: a block under way, which began with `names` names, and the
-- jobs after it; or its end, at which nothing is left to do
pub data Stage : Type 0 where
  during : (block : Point) → (names : ℕ) → (beside : Beside) → (jobs : List Job) → Stage
  ended : Account → Stage

-- a body at such a point, with the resources
pub record Going : Type 0 where
  pub stage : Stage
  pub resources : Resources

abbrev pub going : Stage → Resources → Going
going stage m = record { stage = stage; resources = m }

-- what a job begins with: its environment, and what the body has beside it
abbrev pub job_environment : Job → Account → Environment
job_environment j a = environment (take j.seen a.names) a.printed j.words

abbrev pub beside_job : Job → Account → Beside
beside_job j a = record { unseen = drop j.seen a.names; lines = a.lines; endings = a.endings }

-- what a body has once its block, which began with `n` names, ended so: the block's locals are
-- dropped
abbrev pub account_after : ℕ → Local → Beside → Account
account_after n l b =
    record {
      names = take n l.env.names ++ b.unseen;
      printed = l.env.printed;
      lines = b.lines ++ l.lines;
      endings = b.endings ++ l.ending ∷ [];
    }

-- the block goes on while a piece of it is left; then the jobs after it follow
abbrev pub stage_at : (Account → Stage) → List Piece → Local → ℕ → Beside → List Job → Stage
stage_at follow [] l n b js = follow (account_after n l b)
stage_at follow (p ∷ ps) l n b js = during (point (p ∷ ps) l) n b js

-- begins a job, or leaves it out where it isn't due
abbrev pub stage_if : Bool → (Account → Stage) → Job → List Job → Account → Stage
stage_if false follow j js a = follow a
stage_if true follow j js a =
    let env = job_environment j a in
    let p = first_point j.acts env in
    stage_at follow p.pieces p.here (length env.names) (beside_job j a) js

-- begins the first of these jobs that has something to do; absent and empty blocks take no step
abbrev pub stage_from : List Job → Account → Stage
stage_from [] a = ended a
stage_from (j ∷ js) a = stage_if (is_due j a.endings) (stage_from js) j js a

-- a body at its beginning, with these names and jobs; where its node is disabled, its end
abbrev pub stage_unless : Option (List ℕ) → List Binding → List Job → Stage
stage_unless None names js = stage_from js (fresh_account names)
stage_unless (Some reason) names js = ended (disabled_account reason names)

-- the bodies of `before_all`, of a test and of `after_all` at their beginning, on what these
-- openings left
abbrev pub opening_stage : ClassHead → List ClassHead → List Frame → Stage
opening_stage c cs frames =
    stage_unless c.disabled (opening_names c frames) (before_all_jobs c cs frames)

abbrev pub test_stage : TestHead → List ClassHead → List Frame → Stage
test_stage t cs frames = stage_unless t.disabled (test_names cs frames) (test_jobs t cs)

abbrev pub closing_stage : ClassHead → List ClassHead → List Frame → Stage
closing_stage c cs frames =
    stage_from (after_all_jobs c cs frames) (fresh_account (statics_of frames))

-- where a body stands once its block stands at this machine
abbrev pub going_at : Machine → ℕ → Beside → List Job → Going
going_at m n b js = going (stage_at (stage_from js) m.pieces m.state.here n b js) m.state.resources

-- one step: that of the block under way, after which the next block begins where nothing of it is
-- left; an ended body stays as it is
abbrev pub stage_step : Rights → Stage → Resources → Going
stage_step r (during p n b js) m = going_at (step r (machine_at p m)) n b js
stage_step r (ended a) m = going (ended a) m

abbrev pub body_step : Rights → Going → Going
body_step r g = stage_step r g.stage g.resources

-- `n` steps
abbrev pub body_steps : Rights → ℕ → Going → Going
body_steps r zero g = g
body_steps r (suc n) g = body_step r (body_steps r n g)

-- what doing all that is left comes to
abbrev pub body_finish : Rights → Stage → Resources → Body
body_finish r (ended a) m = body_at a m
body_finish r (during p n b js) m =
    let s = finish r p.pieces (record { here = p.here; resources = m }) in
    with_jobs r js (body_at (account_after n s.here b) s.resources)

abbrev pub body_finished : Rights → Going → Body
body_finished r g = body_finish r g.stage g.resources

-- whether nothing is left to do
abbrev pub is_ended : Stage → Bool
is_ended (during p n b js) = false
is_ended (ended a) = true

-- how far the end is: no more steps than this are left
abbrev pub jobs_distance : List Job → ℕ
jobs_distance [] = 0
jobs_distance (j ∷ js) = BLOCK_STEPS + 1 + jobs_distance js

abbrev pub body_distance : Stage → ℕ
body_distance (during p n b js) = p.here.env.steps + some_left p.pieces + jobs_distance js
body_distance (ended a) = 0

-- what a body is at its beginning and after each step: a block under way has a piece to do first
pub record IsUnderWay (p : Point) : Type 0 where
  pub ready : IsReady p
  pub some : is_done p.pieces ≡ false

abbrev pub IsReadyStage : Stage → Type 0
IsReadyStage (during p n b js) = IsUnderWay p
IsReadyStage (ended a) = Unit {0}

-- the first of the endings, as that of a body of one block
abbrev pub first_ending : List Ending → Ending
first_ending [] = Well
first_ending (e ∷ es) = e

-- what an ended `before_all` leaves, after openings that left these frames
abbrev pub frame_left : List Frame → Body → Frame
frame_left frames b = record {
  statics = frozen (drop (length (statics_of frames)) b.names);
  ending = first_ending b.endings;
  lines = b.lines;
}
