-- The results that a state has.
use Rattle.std.specs.Prelude.{◌≡◌, ℕ, ◌<◌, Some, true, false, length, is_some}
use Rattle.iso_suites.specs.SuiteStates.{IsReached, RunNodes, RunState}
use Rattle.iso_isolation.specs.States.{body_in, frames_in, is_closing, is_finished}
use Rattle.iso_lifecycle.specs.ResultViews.{ResultsView, has_result, is_ended, is_opened}
use Rattle.iso_lifecycle.specs.Subjects.{is_kind_of}
use Rattle.iso_lifecycle.specs.declared.kind.BodyKind.{BodyKind}
use Rattle.iso_model.specs.Bodies.{Stage}
use Rattle.iso_plan.specs.Paths.{row_at}
use Rattle.iso_plan.specs.Planned.{Planned}
use Rattle.iso_plan.specs.RowView.{tree_of}
use Rattle.iso_settings.specs.Worlds.{Start}
use Rattle.iso_standing.specs.UnderWay.{is_after_all}

-- What was put are the `before_all`s of the classes that were left, also once these are finished,
-- and the last bodies of nodes that are finished; and just the nodes that are finished have
-- results.
pub record AreResultsOf (r : ResultsView) (s : RunNodes) : Type 0 where
  pub opened_fit : length r.opened ≡ length r.plan.rows
  pub ended_fit : length r.ended ≡ length r.plan.rows
  pub opened : (n : ℕ) → 0 < n → is_some (frames_in (s.status n)) ≡ true → is_opened r n ≡ true
  pub unopened : (n : ℕ) → is_some (frames_in (s.status n)) ≡ false → is_finished (s.status n)
      ≡ false → is_opened r n ≡ false
  pub unended : (n : ℕ) → is_finished (s.status n) ≡ false → is_ended r n ≡ false
  pub finished : (n : ℕ) → 0 < n → n < length r.plan.rows → has_result r n
      ≡ is_finished (s.status n)

-- A body of a kind is under way at a node of a state that a run leads to, and these are the results
-- of that state.
pub record AtLeave (plan : Planned) (world : Start) (r : ResultsView) (s : RunState) (n : ℕ)
    (b : Stage) (kind : BodyKind) : Type 0 where
  pub reached : IsReached plan world s
  pub results : AreResultsOf r s.nodes
  pub of_plan : r.plan ≡ plan
  pub of_world : r.start ≡ world
  pub inner : 0 < n
  pub within : n < length plan.rows
  pub body : body_in (s.nodes.status n) ≡ Some b
  pub closing : is_after_all kind ≡ is_closing (s.nodes.status n)
  pub fits : is_kind_of kind (row_at (tree_of plan) n).kind ≡ true
