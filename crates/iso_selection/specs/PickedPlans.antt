-- Plans of what is picked of scripts.
use Rattle.std.specs.Prelude.{ℕ, List, Option, None, Some}
use Rattle.std.specs.Option.{option_or}
use Rattle.iso_model.specs.Scripts.{Script}
use Rattle.iso_plan.specs.Faults.{full_fault, keys_fault, not_selected, scripts_fault}
use Rattle.iso_plan.specs.Tree.{Row, tree}
use Rattle.iso_plan.specs.declared.fault.PlanFault.{PlanFault}
use Rattle.iso_selection.specs.Picks.{kept_tree, picked}
use Rattle.iso_selection.specs.Wishes.{Wish, first_in_vain}
use Rattle.iso_selection.specs.declared.shard.Shard.{Shard}

-- the tree of the nodes that picked paths keep. Where neither anything nor a shard is asked for,
-- all are kept.
abbrev pub tree_by : List Row → Option (List (List ℕ)) → List Row
tree_by nodes None = nodes
tree_by nodes (Some paths) = kept_tree nodes paths

abbrev pub picked_tree : List Script → Option (List Wish) → Option Shard → List Row
picked_tree scripts wishes shard = tree_by (tree scripts) (picked (tree scripts) wishes shard)

-- what is too many of it
abbrev pub size_fault : List Row → Option PlanFault
size_fault nodes = option_or (full_fault nodes) (keys_fault nodes)

-- the first fault of scripts and what is asked for. Nodes and keys are counted of what is picked.
abbrev pub picked_plan_fault : List Script → Option (List Wish) → Option Shard → Option PlanFault
picked_plan_fault scripts wishes shard =
    option_or (scripts_fault scripts)
    (option_or (not_selected (first_in_vain (tree scripts) wishes))
    (size_fault (picked_tree scripts wishes shard)))
