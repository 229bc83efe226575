use Rattle.std.proofs.Common.{◌≡◌, length, map}
use Rattle.std.specs.List.{range_with_len}
use Rattle.iso_junit.specs.Runs.{placed_of}
use Rattle.iso_lifecycle.specs.ResultViews.{outcome_in}
use Rattle.iso_plan.specs.RowView.{tree_of}
use Rattle.iso_telling.specs.NodePlaces.{node_place}
use Rattle.iso_telling.specs.Written.{lent}
use Rattle.iso_telling.proofs.places.node_places.Given as goal

abbrev pub invariant-nodes : goal.invariant-nodes
invariant-nodes l = record {
  are : map placed_of l.places.items
      ≡ map (node_place (lent l.names) (tree_of l.plan) l.sites (outcome_in l.results)) (range_with_len 0 l.node);
  each : length l.places.items ≡ l.node;
}
