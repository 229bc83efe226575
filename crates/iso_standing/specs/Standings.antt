-- Where all nodes and workers stand, and the states of the core that look so.
--
-- standing: What tells of a state's phases, owners and workers (`Standing`), and the states that
-- look so (`LooksLike`).
-- Also in: `Phases`.
use Rattle.std.specs.Prelude.{◌≡◌, ℕ, ◌<◌, List, [], Option, Some, None, Bool, true, false, cond, eqb, is_some, ◌&&◌, length, slice_index_or, slice_set, refl}
use Rattle.std.specs.Coded.{Coded, code_by, coded×, coded_list, coded_option, coded_bool, coded_ℕ}
use Rattle.iso_suites.specs.PlanSuites.{suite_of}
use Rattle.iso_standing.specs.Phases.{bare, phase_of}
use Rattle.iso_suites.specs.ScriptLanguage.{Head, is_of_test, scripts}
use Rattle.iso_suites.specs.SuiteStates.{RunState}
use Rattle.iso_standing.specs.declared.phase.Phase.{Phase}
use Rattle.iso_standing.specs.declared.phase.Phase.TheVariants as Phases
use Rattle.iso_standing.specs.declared.phase.Phase.TheVariants.{Barred, Finished, Open, Waiting}
use Rattle.iso_standing.specs.contracts.phase.Phase as phase
use Rattle.iso_isolation.specs.Refusals.{Refused, body_of, refusal}
use Rattle.iso_isolation.specs.Events.{Event, after, ended_well, is_in, where_some}
use Rattle.iso_isolation.specs.States as States
use Rattle.iso_isolation.specs.States.{Begun, Status, body_in, first, is_waiting}
use Rattle.iso_isolation.specs.Runs.{is_complete}
use Rattle.iso_isolation.specs.Suites.{Suite}
use Rattle.iso_model.specs.Bodies.{Stage, ended, fresh_account, is_ended}
use Rattle.iso_model.specs.Openings.{Frame}
use Rattle.iso_model.specs.Resources.{Resources}
use Rattle.iso_model.specs.declared.outcome.Outcome.{Outcome}
use Rattle.iso_model.specs.declared.outcome.Verdict.TheVariants.{Pass}
use Rattle.iso_model.specs.declared.resource.Resource.{Resource}
use Rattle.iso_plan.specs.Paths.{parent, path}
use Rattle.iso_plan.specs.Planned.{Planned}
use Rattle.iso_plan.specs.RowView.{tree_of}
use Rattle.iso_plan.specs.contracts.plan.Plan as plan
use Rattle.iso_standing.specs.declared.event.Event.{Event as Taken}
use Rattle.iso_standing.specs.declared.event.Event.TheVariants as Code

-- the plan; by node, its phase and its owner; by worker, the node of its body, if it has one; and
-- whether the run was stopped
pub record Standing : Type 0 where
  pub plan : Planned
  pub phases : List Phase
  pub owners : List ℕ
  pub busy : List (Option ℕ)
  pub stopped : Bool

-- a standing is stored as its parts
abbrev Parts : Type 0
Parts = Planned × (List Phase × (List ℕ × (List (Option ℕ) × Bool)))

abbrev parts_code : Coded Parts
parts_code =
    coded× plan.the_row.coded (coded× (coded_list phase.the_row.coded)
    (coded× (coded_list coded_ℕ) (coded× (coded_list (coded_option coded_ℕ)) coded_bool)))

abbrev from_parts : Parts → Standing
from_parts p =
    record { plan = p.0; phases = p.1.0; owners = p.1.1.0; busy = p.1.1.1.0; stopped = p.1.1.1.1 }

abbrev pub standing_code : Coded Standing
standing_code = code_by Parts parts_code
    (λ v. (v.plan, (v.phases, (v.owners, (v.busy, v.stopped))))) from_parts (λ _. refl)

abbrev pub nodes_in : Standing → ℕ
nodes_in v = length v.plan.rows

abbrev pub workers_in : Standing → ℕ
workers_in v = length v.busy

abbrev pub phase_at : Standing → ℕ → Phase
phase_at v n = slice_index_or v.phases n Waiting

abbrev pub owner_at : Standing → ℕ → ℕ
owner_at v n = slice_index_or v.owners n 0

abbrev pub node_of : Standing → ℕ → Option ℕ
node_of v w = slice_index_or v.busy w None

-- each node has a phase and an owner, the root is open, and each body is that of another node
pub record IsStanding (v : Standing) : Type 0 where
  pub phases : length v.phases ≡ nodes_in v
  pub owners : length v.owners ≡ nodes_in v
  pub root : 0 < nodes_in v → phase_at v 0 ≡ Open
  pub bodies : (w n : ℕ) → node_of v w ≡ Some n → (0 < n) × (n < nodes_in v)

-- the nodes and workers of a state stand so
pub record LooksLike (v : Standing) (s : RunState) : Type 0 where
  pub phases : (n : ℕ) → n < nodes_in v → phase_of (s.nodes.status n) ≡ phase_at v n
  pub owners : (n : ℕ) → n < nodes_in v → s.owner n ≡ owner_at v n
  pub bodies : (w : ℕ) → w < workers_in v → s.busy w ≡ node_of v w
  pub stopped : s.stopped ≡ v.stopped

-- a state that looks so, in which every body has ended without a word
abbrev pub plain_status : Phase → Status Stage Frame Outcome
plain_status Phases.Waiting = States.Waiting
plain_status Phases.Begun = States.Begun (ended (fresh_account []))
plain_status Phases.Open = States.Open []
plain_status Phases.Barred = States.Barred []
plain_status Phases.Closing = States.Closing [] (ended (fresh_account []))
plain_status Phases.Finished = States.Finished (record { verdict = Pass; output = [] })

abbrev pub plain_state : Standing → RunState
plain_state v = record {
  nodes =
      record { flat = λ k. None; status = λ n. plain_status (phase_at v n); saved = λ n k. None };
  owner = owner_at v;
  busy = node_of v;
  stopped = v.stopped;
}

-- the suite of the plan, where the resources start so
abbrev pub suite_in : Standing → Resources → Suite Head (List ℕ) Resource
suite_in v start = suite_of (tree_of v.plan) v.plan.settings start

-- a worker's body in a state
abbrev pub body_under_way : Standing → Resources → RunState → ℕ → Option Stage
body_under_way v start s w = body_of scripts (suite_in v start) (workers_in v) s w

-- whether a worker's body has ended, if it has one
abbrev pub EndsAs : Standing → RunState → ℕ → Bool → Type 0
EndsAs v s w has_ended = (start : Resources) (b : Stage) → body_under_way v start s w ≡ Some b
    → is_ended b ≡ has_ended

-- why an event is refused in a state, if it is
abbrev pub refusal_in : Standing → Resources → RunState → Event → Option Refused
refusal_in v start s e = refusal scripts (suite_in v start) (workers_in v) s e

-- the state after an event
abbrev pub after_in : Standing → Resources → RunState → Event → RunState
after_in v start s e = after scripts (suite_in v start) s e

-- of one plan, and of as many workers
pub record OfSame (v u : Standing) : Type 0 where
  pub plan : u.plan ≡ v.plan
  pub workers : workers_in u ≡ workers_in v

-- whether the body with which a worker's node was entered has ended well, where that is a
-- `before_all`
abbrev pub EndsWellAs : Standing → RunState → ℕ → Bool → Type 0
EndsWellAs v s w well =
    (start : Resources) (n : ℕ) (b : Stage) → s.busy w ≡ Some n → s.nodes.status n ≡ Begun b
    → is_of_test ((suite_in v start).head n) ≡ false
    → ended_well scripts (suite_in v start) n b s.nodes ≡ well

-- What an event asks to be told of its worker's body: a Step and a Leave whether it has ended, a
-- Leave that is taken whether it has ended well. An Enter and a Shut ask nothing.
abbrev pub TellsEnd : Standing → RunState → Taken → Bool → Type 0
TellsEnd v s (Code.Enter worker node) has_ended = Unit {0}
TellsEnd v s (Code.Step worker) has_ended = EndsAs v s worker has_ended
TellsEnd v s (Code.Leave worker) has_ended = EndsAs v s worker has_ended
TellsEnd v s (Code.Shut worker node) has_ended = Unit {0}

abbrev pub TellsWell : Standing → RunState → Taken → Bool → Type 0
TellsWell v s (Code.Enter worker node) well = Unit {0}
TellsWell v s (Code.Step worker) well = Unit {0}
TellsWell v s (Code.Leave worker) well = EndsWellAs v s worker well
TellsWell v s (Code.Shut worker node) well = Unit {0}

-- the first state
abbrev pub first_in : Standing → Resources → RunState
first_in v start = first scripts (suite_in v start)

-- whether every node but the root is finished
abbrev pub is_complete_in : Standing → Resources → RunState → Bool
is_complete_in v start s = is_complete (suite_in v start) s

-- whether a node is a descendant of another
abbrev pub is_inside : Standing → ℕ → ℕ → Bool
is_inside v m n = is_in n (path (tree_of v.plan) (parent (tree_of v.plan) m))

-- whether a worker has a body
abbrev pub has_body_at : Standing → ℕ → Bool
has_body_at v w = is_some (where_some (node_of v w) None (λ n. body_in (bare (phase_at v n))))

-- a worker and a node that there are
pub record Fits (v : Standing) (w n : ℕ) : Type 0 where
  pub worker : w < workers_in v
  pub node : n < nodes_in v
  pub inner : 0 < n

-- a worker that has a body
pub record HasBody (v : Standing) (w : ℕ) : Type 0 where
  pub worker : w < workers_in v
  pub body : has_body_at v w ≡ true

-- what an event that is accepted is about: a worker and a node but the root, or a worker that has a
-- body
abbrev pub CanTake : Standing → Taken → Type 0
CanTake v (Code.Enter worker node) = Fits v worker node
CanTake v (Code.Step worker) = HasBody v worker
CanTake v (Code.Leave worker) = HasBody v worker
CanTake v (Code.Shut worker node) = Fits v worker node

-- a node came so far, and nothing else changed
abbrev pub with_phase : Standing → ℕ → Phase → Standing
with_phase v n p = record v { phases = slice_set v.phases n p }

-- the phase of a node once a class was barred: what waits in it is finished
abbrev pub phase_under : Standing → ℕ → ℕ → Phase
phase_under v c m =
    cond (is_inside v m c && is_waiting (bare (phase_at v m))) Finished (phase_at v m)

-- a class was barred, and nothing else changed
pub record IsBarred (c : ℕ) (v u : Standing) : Type 0 where
  pub phases : (m : ℕ) → m < nodes_in v → phase_at u m ≡ cond (eqb m c) Barred (phase_under v c m)
  pub rest : u ≡ record v { phases = u.phases }
