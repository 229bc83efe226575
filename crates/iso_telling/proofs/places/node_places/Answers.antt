use Rattle.std.proofs.Common.{List, [], ◌∷◌, ◌++◌, map, ap, ap₂, sym, ◌∙◌, arith}
use Rattle.std.proofs.lemmas.List.{map-append}
use Rattle.std.proofs.lemmas.List.FromFn.{map-range_with_len_more}
use Rattle.iso_junit.specs.Runs.{PlacedView, placed_of}
use Rattle.iso_lifecycle.specs.ResultViews.{outcome_in}
use Rattle.iso_plan.specs.RowView.{tree_of}
use Rattle.iso_telling.specs.NodePlaces.{node_place}
use Rattle.iso_telling.specs.Written.{lent}
use Rattle.iso_telling.proofs.places.node_places.Goals as goal

pub nodes-preserved : goal.nodes-preserved
nodes-preserved c =
    let place = node_place (lent c.args.names.now) (tree_of c.args.plan.now) c.args.sites.now (outcome_in c.args.results.now) in
    record {
      are = ap (map placed_of) c.in_ok-push.ensures.items
          ∙ map-append placed_of c.nodes.places.items _
          ∙ ap₂ (λ (ps : List PlacedView) (p : PlacedView). ps ++ p ∷ []) c.nodes.invariant.are c.in_ok-node_place.ensures
          ∙ sym (map-range_with_len_more place 0 c.nodes.node c.nodes.node (omega arith));
      each = let before = c.nodes.invariant.each in let more = c.in_ok-push.ensures.len in omega (arith, before, more);
    }
