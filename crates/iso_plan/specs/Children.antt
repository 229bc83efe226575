-- Children by their place among those of one node.
use Rattle.std.specs.Prelude.{◌≡◌, ℕ, ◌<◌, List, length, slice_index_or}
use Rattle.iso_plan.specs.Paths.{parent}
use Rattle.iso_plan.specs.Tree.{Row}

-- a node with a number below l, not the root, has m as its parent
pub record IsChild (tree : List Row) (m l n : ℕ) : Type 0 where
  pub positive : 0 < n
  pub within : n < l
  pub parent_is : parent tree n ≡ m

-- a number stands at some place of a list
pub record IsListed (ns : List ℕ) (n : ℕ) : Type 0 where
  pub place : ℕ
  pub within : place < length ns
  pub is : slice_index_or ns place 0 ≡ n
