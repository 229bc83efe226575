-- The nodes that are lent, and beside them their locking nodes.
--
-- lent nodes and their locking nodes: No two lent nodes clash (`AreApart`), or a node clashes with
-- none of them (`IsBeside`). Of how many lent nodes each node is the locking node (`lent_under`,
-- `under_it`), and whether one that is it of none conflicts with one that is (`is_kept_out`).
-- Also in: `Lockers`.
use Rattle.std.specs.Prelude.{◌≡◌, ◌≢◌, ◌<◌, ◌&&◌, ℕ, List, length, Bool, true, false}
use Rattle.iso_locks.specs.Clashes.{clash}
use Rattle.iso_locks.specs.Lockers.{LockersView, under_it}
use Rattle.iso_locks.specs.Trays.{is_lent}
use Rattle.iso_plan.specs.HeldNodes.{HeldView, count}
use Rattle.iso_plan.specs.Locks.{is_that, locking_node}
use Rattle.iso_plan.specs.Planned.{Planned}
use Rattle.iso_plan.specs.RowView.{tree_of}
use Rattle.iso_plan.specs.Tree.{Row}

-- no two lent nodes clash
abbrev pub AreApart : List Row → List Bool → Type 0
AreApart tree lent = (m n : ℕ) → m ≢ n → is_lent lent m ≡ true → is_lent lent n ≡ true
    → clash tree m n ≡ false

-- a node clashes with no lent one
abbrev pub IsBeside : List Row → List Bool → ℕ → Type 0
IsBeside tree lent n = (m : ℕ) → is_lent lent m ≡ true → clash tree m n ≡ false

-- how many lent nodes have a node as their locking node
abbrev pub lent_under : List Row → List Bool → ℕ → ℕ
lent_under tree lent a =
    count (λ m. is_lent lent m && is_that (locking_node tree m) a) (length tree)

-- of each node it is counted how many lent nodes it is the locking node of
pub record KeepsLent (plan : Planned) (lent : HeldView) (lockers : LockersView) : Type 0 where
  pub lent_of : lent.plan ≡ plan
  pub lockers_of : lockers.plan ≡ lent.plan
  pub each : length lent.held ≡ length lent.plan.rows
  pub table : length lockers.under ≡ length lent.plan.rows
  pub counts : (a : ℕ) → a < length lent.plan.rows → under_it lockers.under a
      ≡ lent_under (tree_of lent.plan) lent.held a
