-- What is kept of scripts, as paths for the plan, and what is wrong with what was asked for.
--
-- what is picked: The named nodes whose top-level class is in the shard (`is_picked`), their paths
-- in the nodes' order (`picked`), what these keep (`kept_tree`), and what is wrong with what is
-- asked for (`pick_fault`); that no two nodes have one path (`HaveOwnPaths`). Of scripts its tree
-- and the first fault of its plan (`picked_tree`, `picked_plan_fault`).
-- Also in: `PickedPlans`.
use Rattle.std.specs.Prelude.{◌≡◌, ℕ, List, [], Option, None, Some, Bool, ◌&&◌, ◌<◌, ⊤, length, map}
use Rattle.std.specs.Option.{option_or}
use Rattle.iso_model.specs.Scripts.{Script}
use Rattle.iso_plan.specs.Faults.{not_selected, scripts_fault}
use Rattle.iso_plan.specs.PathTexts.{path_text}
use Rattle.iso_plan.specs.KeptNodes.{is_kept_by, those_below, those_of}
use Rattle.iso_plan.specs.Tree.{Row, tree}
use Rattle.iso_plan.specs.declared.fault.PlanFault.{PlanFault}
use Rattle.iso_selection.specs.Shards.{is_in}
use Rattle.iso_selection.specs.Wishes.{Wish, first_in_vain, is_named_by}
use Rattle.iso_selection.specs.declared.pick.Picked.{Picked}
use Rattle.iso_selection.specs.declared.pick.Picked.TheVariants.{All, Nothing, These}
use Rattle.iso_selection.specs.declared.shard.Shard.{Shard}

-- whether a node is picked: what is asked for names it, and its top-level class goes to the shard
abbrev pub is_picked : List Row → Option (List Wish) → Option Shard → ℕ → Bool
is_picked tree wishes shard n =
    is_named_by tree wishes n && is_in tree (is_named_by tree wishes) shard n

-- the paths of the picked nodes, in the nodes' order
abbrev pub picked_paths : List Row → Option (List Wish) → Option Shard → List (List ℕ)
picked_paths tree wishes shard =
    map (path_text tree) (those_below (is_picked tree wishes shard) (length tree))

-- the same, where something is asked for, or a shard
abbrev pub picked : List Row → Option (List Wish) → Option Shard → Option (List (List ℕ))
picked tree None None = None
picked tree None (Some shard) = Some (picked_paths tree None (Some shard))
picked tree (Some wishes) shard = Some (picked_paths tree (Some wishes) shard)

-- what is wrong with scripts and what is asked for. Where nothing is, nothing is looked at.
abbrev pub pick_fault : List Script → Option (List Wish) → Option Shard → Option PlanFault
pick_fault scripts None None = None
pick_fault scripts None (Some shard) = scripts_fault scripts
pick_fault scripts (Some wishes) shard =
    option_or (scripts_fault scripts) (not_selected (first_in_vain (tree scripts) (Some wishes)))

-- the paths that an answer has, of which there is one at least where it has any
abbrev pub paths_of : Picked → Option (List (List ℕ))
paths_of All = None
paths_of Nothing = Some []
paths_of (These paths) = Some paths.items

abbrev pub HasPaths : Picked → Type 0
HasPaths All = ⊤
HasPaths Nothing = ⊤
HasPaths (These paths) = 0 < length paths.items

-- no two nodes have one path
abbrev pub HaveOwnPaths : List Row → Type 0
HaveOwnPaths tree = (m n : ℕ) → 0 < m → m < length tree → 0 < n → n < length tree → path_text tree m
    ≡ path_text tree n → m ≡ n

-- the tree of the nodes that these paths keep. Where there is none, the root alone is kept.
abbrev pub kept_tree : List Row → List (List ℕ) → List Row
kept_tree tree paths = those_of (is_kept_by tree paths) tree
