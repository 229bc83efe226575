-- What contracts see of the book of a run, and what every book is.
--
-- book: The plan and world of a book, its workers, its history and whether it was stopped
-- (`BookView`); the state that the history in full gives (`state_in`); why the state machine
-- refuses an event there (`refusal_in`); how many events may still come (`weight`, `left_in`); what
-- every book is (`IsBook`); which nodes are held in two books alike, but for one that was entered
-- or left (`HoldSame`, `HoldAlike`, `HoldAfter`); how far a node that was entered, shut or left has
-- come, and that every other one that was entered stays as it was (`HasEntered`, `HasShut`,
-- `HasGoneOn`, `StayEntered`).
-- Also in: `Holdings`, `Progress`.
use Rattle.std.specs.Prelude.{◌≡◌, ◌≤◌, ◌<◌, ◌+◌, ◌*◌, ℕ, zero, suc, List, [], ◌∷◌, ◌++◌, Option, Bool, false, length, refl}
use Rattle.std.specs.Coded.{Coded, code_by, coded×, coded_list, coded_bool, coded_ℕ}
use Rattle.iso_isolation.specs.Histories.{IsHistory, state_of}
use Rattle.iso_isolation.specs.Refusals as Why
use Rattle.iso_isolation.specs.Refusals.{refusal}
use Rattle.iso_isolation.specs.Runs as Runs
use Rattle.iso_isolation.specs.Runs.{result_of}
use Rattle.iso_isolation.specs.States.{is_held}
use Rattle.iso_isolation.specs.Suites.{Suite}
use Rattle.iso_lifecycle.specs.ResultViews.{ResultsView}
use Rattle.iso_locks.specs.Trays.{is_lent}
use Rattle.iso_locks.specs.Vaults.{VaultView}
use Rattle.iso_model.specs.declared.outcome.Outcome.{Outcome}
use Rattle.iso_model.specs.declared.resource.Resource.{Resource}
use Rattle.iso_plan.specs.Planned.{Planned}
use Rattle.iso_plan.specs.contracts.plan.Plan as plan
use Rattle.iso_settings.specs.Worlds.{Start, start_code}
use Rattle.iso_standing.specs.CodeEvents.{event_of, events_of}
use Rattle.iso_standing.specs.Phases.{phase_of}
use Rattle.iso_standing.specs.ResultStates.{AreResultsOf}
use Rattle.iso_standing.specs.Standings.{LooksLike, Standing, workers_in}
use Rattle.iso_standing.specs.contracts.event.Event as event
use Rattle.iso_standing.specs.declared.event.Event.{Event}
use Rattle.iso_standing.specs.declared.phase.Phase.{Phase}
use Rattle.iso_standing.specs.declared.phase.Phase.TheVariants.{Waiting, Begun, Open, Barred, Closing, Finished}
use Rattle.iso_suites.specs.ScriptLanguage.{Head, scripts}
use Rattle.iso_suites.specs.SuiteStates.{RunState, stopped_if, suite_at}

-- the plan and the world that it was made for, the number of workers, the Enters, Leaves and Shuts
-- that it has taken, and whether it was stopped
pub record BookView : Type 0 where
  pub plan : Planned
  pub world : Start
  pub workers : ℕ
  pub history : List Event
  pub stopped : Bool

-- a book is stored as its parts
abbrev Parts : Type 0
Parts = Planned × (Start × (ℕ × (List Event × Bool)))

abbrev parts_code : Coded Parts
parts_code =
    coded× plan.the_row.coded
    (coded× start_code (coded× coded_ℕ (coded× (coded_list event.the_row.coded) coded_bool)))

abbrev from_parts : Parts → BookView
from_parts p = record {
  plan = p.0;
  world = p.1.0;
  workers = p.1.1.0;
  history = p.1.1.1.0;
  stopped = p.1.1.1.1;
}

abbrev pub book_code : Coded BookView
book_code = code_by Parts parts_code (λ v. (v.plan, (v.world, (v.workers, (v.history, v.stopped)))))
    from_parts (λ _. refl)

-- a book of a plan and a world that has taken no event
abbrev pub new_book : Planned → Start → ℕ → BookView
new_book plan world workers =
    record { plan = plan; world = world; workers = workers; history = []; stopped = false }

abbrev pub suite_in : BookView → Suite Head (List ℕ) Resource
suite_in b = suite_at b.plan b.world

-- the state that it is in: the one that its history in full gives
abbrev pub state_in : BookView → RunState
state_in b = stopped_if b.stopped (state_of scripts (suite_in b) (events_of b.history))

-- why the state machine refuses an event there, if it does
abbrev pub refusal_in : BookView → Event → Option Why.Refused
refusal_in b e = refusal scripts (suite_in b) b.workers (state_in b) (event_of e)

-- the book with one event more
abbrev pub with_event : BookView → Event → BookView
with_event b e = record b { history = b.history ++ e ∷ [] }

-- the outcome of a node, if it is finished
abbrev pub outcome_in : BookView → ℕ → Option Outcome
outcome_in b n = result_of (state_in b) n

-- whether every node but the root is finished
abbrev pub is_complete : BookView → Bool
is_complete b = Runs.is_complete (suite_in b) (state_in b)

-- how many events a node at a phase may still have
abbrev pub weight : Phase → ℕ
weight Waiting = 4
weight Begun = 3
weight Open = 2
weight Barred = 2
weight Closing = 1
weight Finished = 0

-- how many the first n nodes of a state may still have
abbrev pub left_below : RunState → ℕ → ℕ
left_below s zero = 0
left_below s (suc n) = left_below s n + weight (phase_of (s.nodes.status n))

-- how many the nodes of a book may still have
abbrev pub left_in : BookView → ℕ
left_in b = left_below (state_in b) (length b.plan.rows)

-- What every book is: its history in full is a run; where its nodes and workers stand, what it has
-- lent and its results are those of the state that this run gives; no node has more than four
-- events, and it has room for all that may still come.
pub record IsBook (b : BookView) (standing : Standing) (vault : VaultView) (results : ResultsView)
    (slots : ℕ) : Type 0 where
  pub history : IsHistory scripts (suite_in b) b.workers (events_of b.history)
  pub standing_plan : standing.plan ≡ b.plan
  pub workers : workers_in standing ≡ b.workers
  pub stands : LooksLike standing (state_in b)
  pub vault_plan : vault.plan ≡ b.plan
  pub vault_world : vault.world ≡ b.world
  pub lent_fits : length vault.lent ≡ length b.plan.rows
  pub root : is_lent vault.lent 0 ≡ false
  pub lent : (n : ℕ) → 0 < n → n < length b.plan.rows → is_lent vault.lent n
      ≡ is_held ((state_in b).nodes.status n)
  pub results_plan : results.plan ≡ b.plan
  pub results_world : results.start ≡ b.world
  pub results_are : AreResultsOf results (state_in b).nodes
  pub bounded : length b.history + left_in b ≤ 4 * length b.plan.rows
  pub room : 4 * length b.plan.rows ≤ slots
