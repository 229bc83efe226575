-- What contracts see of results: the plan and the start that they are of, and which bodies have
-- been put.
--
-- results: By node, which bodies' ends were put; a node has a result once its end was put, or where
-- it is a descendant of a class whose `before_all` was put and didn't end well (`has_result`,
-- `is_barred`); its result is the outcome of the node run alone (`result_in`). What may be put, and
-- when: `is_due`, `AreOpen`, `CanPut`.
-- Standard: JUnit 5 User Guide, test lifecycle, assumptions.
use Rattle.std.specs.Prelude.{◌≡◌, ℕ, ◌<◌, List, [], ◌∷◌, ◌++◌, length, replicate, Option, Some, None, Bool, true, false, ◌||◌, ◌&&◌, not, cond, slice_index_or, slice_set, refl}
use Rattle.std.specs.Coded.{Coded, code_by, coded×, coded_list, coded_bool}
use Rattle.iso_model.specs.LinesView.{lines_in}
use Rattle.iso_model.specs.Statements.{is_well}
use Rattle.iso_model.specs.declared.outcome.Outcome.{Outcome}
use Rattle.iso_model.specs.declared.outcome.Verdict.{Verdict}
use Rattle.iso_model.specs.declared.outcome.Verdict.TheVariants as V
use Rattle.iso_plan.specs.Paths.{parent, path}
use Rattle.iso_plan.specs.Planned.{Planned}
use Rattle.iso_plan.specs.RowView.{tree_of}
use Rattle.iso_plan.specs.contracts.plan.Plan as plan
use Rattle.iso_settings.specs.Worlds.{Start, start_code}
use Rattle.iso_lifecycle.specs.DoneViews.{DoneView}
use Rattle.iso_lifecycle.specs.Subjects.{outcome_alone, own_frame, started, subject}
use Rattle.iso_lifecycle.specs.declared.kind.BodyKind.{BodyKind}
use Rattle.iso_lifecycle.specs.declared.kind.BodyKind.TheVariants.{BeforeAll, Test, AfterAll}
use Rattle.iso_lifecycle.specs.declared.view.View.{View}
use Rattle.iso_lifecycle.specs.declared.view.ViewVerdict.{ViewVerdict}
use Rattle.iso_lifecycle.specs.declared.view.ViewVerdict.TheVariants as W

-- by node: whether a class's `before_all` was put; whether a test, or a class's `after_all`, was
-- put
pub record ResultsView : Type 0 where
  pub plan : Planned
  pub start : Start
  pub opened : List Bool
  pub ended : List Bool

-- results are stored as their parts
abbrev Parts : Type 0
Parts = Planned × (Start × (List Bool × List Bool))

abbrev parts : ResultsView → Parts
parts v = (v.plan, (v.start, (v.opened, v.ended)))

abbrev with_parts : Parts → ResultsView
with_parts p = record { plan = p.0; start = p.1.0; opened = p.1.1.0; ended = p.1.1.1 }

abbrev pub results_code : Coded ResultsView
results_code =
    code_by Parts (coded× plan.the_row.coded
    (coded× start_code (coded× (coded_list coded_bool) (coded_list coded_bool)))) parts
    with_parts (λ _. refl)

-- results in which nothing was put
abbrev pub no_results : Planned → Start → ResultsView
no_results plan start = record {
  plan = plan;
  start = start;
  opened = replicate (length plan.rows) false;
  ended = replicate (length plan.rows) false;
}

abbrev pub is_opened : ResultsView → ℕ → Bool
is_opened v n = slice_index_or v.opened n false

abbrev pub is_ended : ResultsView → ℕ → Bool
is_ended v n = slice_index_or v.ended n false

-- whether the `before_all` of a class was put and didn't end well
abbrev pub is_barring : ResultsView → ℕ → Bool
is_barring v n = is_opened v n && not (is_well (own_frame (subject v.plan v.start n)).ending)

abbrev pub is_some_barring : ResultsView → List ℕ → Bool
is_some_barring v [] = false
is_some_barring v (n ∷ ns) = is_barring v n || is_some_barring v ns

-- whether a node is a descendant of a class whose `before_all` was put and didn't end well
abbrev pub is_barred : ResultsView → ℕ → Bool
is_barred v n = is_some_barring v (path (tree_of v.plan) (parent (tree_of v.plan) n))

-- whether a node has a result
abbrev pub has_result : ResultsView → ℕ → Bool
has_result v n = is_ended v n || is_barred v n

-- the outcome of a node that has a result: that of the node run alone
abbrev pub outcome_in : ResultsView → ℕ → Outcome
outcome_in v n = outcome_alone (tree_of v.plan) (started v.start) n

abbrev pub result_in : ResultsView → ℕ → Option Outcome
result_in v n = cond (has_result v n) (Some (outcome_in v n)) None

-- whether all nodes but the root have results
abbrev pub AreComplete : ResultsView → Type 0
AreComplete v = (n : ℕ) → 0 < n → n < length v.plan.rows → has_result v n ≡ true

-- results with the end of one body more
abbrev pub with_done_of : BodyKind → ℕ → ResultsView → ResultsView
with_done_of BeforeAll n v = record v { opened = slice_set v.opened n true }
with_done_of Test n v = record v { ended = slice_set v.ended n true }
with_done_of AfterAll n v = record v { ended = slice_set v.ended n true }

abbrev pub with_done : DoneView → ResultsView → ResultsView
with_done d v = with_done_of d.kind d.subject.node v

-- a body of this kind was not put yet, and an `after_all` comes after its `before_all`
abbrev pub is_due : BodyKind → ℕ → ResultsView → Bool
is_due BeforeAll n v = not (is_opened v n)
is_due Test n v = not (is_ended v n)
is_due AfterAll n v = is_opened v n && not (is_ended v n)

-- all these classes' `before_all`s were put and ended well
abbrev pub AreOpen : ResultsView → List ℕ → Type 0
AreOpen v [] = Unit {0}
AreOpen v (n ∷ ns) = ((is_opened v n ≡ true)
    × (is_well (own_frame (subject v.plan v.start n)).ending ≡ true)) × AreOpen v ns

-- the `before_all`s of all these classes were put
abbrev pub AreOpened : ResultsView → List ℕ → Type 0
AreOpened v [] = Unit {0}
AreOpened v (n ∷ ns) = (is_opened v n ≡ true) × AreOpened v ns

-- the end of a body may be put: it is of this plan and start, it wasn't put before, an `after_all`
-- comes after its `before_all`, and the `before_all`s of all enclosing classes were put and ended
-- well
pub record CanPut (d : DoneView) (v : ResultsView) : Type 0 where
  pub plan : d.subject.plan ≡ v.plan
  pub start : d.subject.start ≡ v.start
  pub node : d.subject.node < length v.plan.rows
  pub due : is_due d.kind d.subject.node v ≡ true
  pub enclosed : AreOpen v (path (tree_of v.plan) (parent (tree_of v.plan) d.subject.node))

-- a verdict whose note is borrowed
abbrev pub verdict_of_view : ViewVerdict → Verdict
verdict_of_view W.Pass = V.Pass
verdict_of_view (W.Fail note) = V.Fail note.now
verdict_of_view (W.Fault kind note) = V.Fault kind note.now
verdict_of_view (W.Skipped note) = V.Skipped note.now
verdict_of_view (W.Blocked note) = V.Blocked note.now

-- the outcome that a view lends
abbrev pub outcome_of_view : View → Outcome
outcome_of_view v =
    record { verdict = verdict_of_view v.verdict; output = lines_in v.lines ++ lines_in v.more }
