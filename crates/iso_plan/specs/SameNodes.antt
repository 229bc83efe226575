-- A node of one tree as a node of another.
--
-- a node of two trees: It has one path, one class chain and one set of rights in both
-- (`IsSameNode`), as each kept node has (`KeepsChains`).
use Rattle.std.specs.Prelude.{◌≡◌, ℕ, ◌<◌, List, true, length}
use Rattle.iso_plan.specs.NodeChains.{chain_classes, chain_test, node_rights}
use Rattle.iso_plan.specs.PathTexts.{path_text}
use Rattle.iso_plan.specs.Planned.{Planned}
use Rattle.iso_plan.specs.KeptNodes.{is_kept, number_among}
use Rattle.iso_plan.specs.Tree.{Row}

-- node m of the first tree and node n of the second have one path and one class chain
pub record IsSameNode (first : List Row) (m : ℕ) (second : List Row) (n : ℕ) : Type 0 where
  pub path : path_text first m ≡ path_text second n
  pub classes : chain_classes first m ≡ chain_classes second n
  pub test : chain_test first m ≡ chain_test second n
  pub rights : node_rights first m ≡ node_rights second n

-- each node of a tree that these paths keep is a node of this plan
abbrev pub KeepsChains : List Row → List (List ℕ) → Planned → Type 0
KeepsChains tree only plan =
    (m : ℕ) → m < length tree → is_kept tree only m ≡ true
    → IsSameNode tree m plan.rows (number_among (is_kept tree only) m)
