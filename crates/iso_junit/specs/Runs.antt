-- What contracts see of a run: its nodes, what they came to, where they stand and how long their
-- bodies took.
use Rattle.std.specs.Prelude.{ℕ, List, [], Option, None, map, slice_index_or}
use Rattle.iso_lifecycle.specs.ResultViews.{outcome_in}
use Rattle.iso_model.specs.declared.outcome.Outcome.{Outcome}
use Rattle.iso_plan.specs.RowView.{tree_of}
use Rattle.iso_plan.specs.Tree.{Row}
use Rattle.iso_junit.specs.declared.placed.Placed.{Placed}
use Rattle.iso_junit.specs.declared.run.Run.{Run}

-- where a node stands: the file, the line of its name, and that of what ended it
pub record PlacedView : Type 0 where
  pub file : List ℕ
  pub line : ℕ
  pub ended : ℕ

abbrev pub placed_of : Placed → PlacedView
placed_of p = record { file = p.file.now; line = p.line; ended = p.ended }

-- a run, its places and times by node
pub record RunView : Type 0 where
  pub tree : List Row
  pub outcome : ℕ → Outcome
  pub places : List PlacedView
  pub times : List (Option ℕ)

abbrev pub run_of : Run → RunView
run_of r = record {
  tree = tree_of r.plan.now;
  outcome = outcome_in r.results.now;
  places = map placed_of r.places.now;
  times = r.times.now;
}

-- where the node with a number stands
abbrev pub place : RunView → ℕ → PlacedView
place r n = slice_index_or r.places n (record { file = []; line = 0; ended = 0 })

-- the microseconds that its bodies took, none where they weren't measured
abbrev pub time : RunView → ℕ → Option ℕ
time r n = slice_index_or r.times n None
