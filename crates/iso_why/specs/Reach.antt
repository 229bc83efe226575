-- How far the descendants of a node go.
use Rattle.std.specs.Prelude.{◌≡◌, ◌<◌, ℕ, List, true, length, slice_index_or}
use Rattle.iso_plan.specs.Paths.{is_under}
use Rattle.iso_plan.specs.Tree.{Row}

-- for each node but the root a number above its own and those of all its descendants
pub record IsReach (tree : List Row) (ends : List ℕ) : Type 0 where
  pub each : length ends ≡ length tree
  pub past : (m n : ℕ) → n < length tree → is_under tree m n ≡ true → n < slice_index_or ends m 0
