-- The outcomes of results, as those of a plan's nodes run alone.
use Rattle.std.proofs.Common.{◌≡◌, ℕ, ap}
use Rattle.iso_model.specs.declared.outcome.Outcome.{Outcome}
use Rattle.iso_plan.specs.Planned.{Planned}
use Rattle.iso_plan.specs.RowView.{tree_of}
use Rattle.iso_lifecycle.specs.ResultViews.{ResultsView, outcome_in}
use Rattle.iso_lifecycle.specs.Subjects.{outcome_alone, started}

pub outcomes-are : (v : ResultsView) (plan : Planned) → v.plan ≡ plan → outcome_in v ≡ outcome_alone (tree_of plan) (started v.start)
outcomes-are v plan e = ap {B = ℕ → Outcome} (λ (p : Planned). outcome_alone (tree_of p) (started v.start)) e
