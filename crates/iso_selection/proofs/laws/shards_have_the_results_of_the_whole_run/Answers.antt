use Rattle.std.proofs.Common.{◌≡◌, ℕ, false, true, List, [], ◌∷◌, Option, Some, None, refl, sym, ap, ◌∙◌}
use Rattle.iso_plan.specs.Planned.{Planned}
use Rattle.iso_plan.specs.RowView.{tree_of}
use Rattle.iso_plan.specs.KeptNodes.{selection}
use Rattle.iso_plan.specs.Tree.{Row, tree}
use Rattle.iso_suites.specs.Selected as S
use Rattle.iso_selection.specs.PickedPlans.{tree_by}
use Rattle.iso_selection.specs.Picks.{kept_tree, picked, picked_paths}
use Rattle.iso_selection.specs.Results.{KeepsResults}
use Rattle.iso_selection.specs.Wishes.{Wish}
use Rattle.iso_selection.specs.declared.shard.Shard.{Shard}
use Rattle.iso_selection.proofs.ShardLemmas.{none-kept}
use Rattle.iso_selection.proofs.laws.shards_have_the_results_of_the_whole_run.Goals as goal

-- a shard has paths, whatever is asked for
in-shard : (nodes : List Row) (wishes : Option (List Wish)) (shard : Shard) → tree_by nodes (picked nodes wishes (Some shard)) ≡ kept_tree nodes (picked_paths nodes wishes (Some shard))
in-shard nodes None shard = refl
in-shard nodes (Some wishes) shard = refl

-- what some paths keep has its results; no path keeps a node
kept-results : (whole part : Planned) (paths : List (List ℕ)) → tree_of part ≡ kept_tree (tree_of whole) paths
    → ((only : List (List ℕ)) → tree_of part ≡ selection (tree_of whole) only → S.KeepsResults whole part only) → KeepsResults whole part paths
kept-results whole part [] is law = λ n first second runs.
    let kept : false ≡ true = sym (none-kept (tree_of whole) n runs.in_whole.nonzero) ∙ runs.kept in
    absurd (cc)
kept-results whole part (p ∷ ps) is law = λ n first second runs. law (p ∷ ps) is n first second (record {
  within = runs.within;
  kept = runs.kept;
  start = runs.start;
  other = runs.other;
  alike = runs.alike;
  in_whole = runs.in_whole;
  in_selected = runs.in_part;
})

pub returns : goal.returns
returns c = λ scripts wishes shard whole_is part_is.
    let paths = picked_paths (tree scripts) wishes (Some shard) in
    kept-results c.args.whole.now c.args.part.now paths (part_is ∙ in-shard (tree scripts) wishes shard ∙ ap (λ (rows : List Row). kept_tree rows paths) (sym whole_is))
    c.selected_nodes_have_the_results_of_the_whole_run.ensures
