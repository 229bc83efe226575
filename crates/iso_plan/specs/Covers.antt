-- That the rights of a node are covered by locks.
--
-- covered rights: The locking node, which stands at or above, takes the key, for READ_WRITE where
-- it may be changed (`IsCovered`).
use Rattle.std.specs.Prelude.{◌≡◌, ℕ, List, Some, true}
use Rattle.iso_model.specs.Rights.{is_readable, is_writable}
use Rattle.iso_plan.specs.Locks.{locking_node, taken}
use Rattle.iso_plan.specs.NodeChains.{node_rights}
use Rattle.iso_plan.specs.Paths.{is_under}
use Rattle.iso_plan.specs.Tree.{Row}

-- the locking node of n, which stands at or above it, takes the key, for READ_WRITE where n may
-- change it
pub record IsCovered (tree : List Row) (n : ℕ) (key : List ℕ) : Type 0 where
  pub taker : ℕ
  pub locks : locking_node tree n ≡ Some taker
  pub above : is_under tree taker n ≡ true
  pub reads : is_readable (taken tree taker key) ≡ true
  pub writes : is_writable (node_rights tree n key) ≡ true
      → is_writable (taken tree taker key) ≡ true
