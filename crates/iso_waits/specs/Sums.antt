-- What single waits add up to, in a table that has a place for each key and is used for one node
-- after another.
use Rattle.std.specs.Prelude.{◌≡◌, ℕ, ◌<◌, ◌≤◌, ◌==◌, List, Option, Some, None, IfSome, cond, length, slice_index_or}
use Rattle.std.specs.List.{filter_map}
use Rattle.iso_plan.specs.KeyTable.{keys}
use Rattle.iso_plan.specs.Tree.{Row}
use Rattle.iso_plan.specs.declared.lock.Lock.{Lock}
use Rattle.iso_waits.specs.AllWaits.{wait_for}
use Rattle.iso_waits.specs.declared.wait.NodeWait.{NodeWait}
use Rattle.iso_waits.specs.declared.wait.Wait.{Wait}

-- a sum, where it is node n's
abbrev pub of_node : ℕ → Option NodeWait → Option NodeWait
of_node n None = None
of_node n (Some sum) = cond (sum.node == n) (Some sum) None

-- the sum of node n that a table has for a key
abbrev pub sum_at : ℕ → List (Option NodeWait) → ℕ → Option NodeWait
sum_at n sums k = of_node n (slice_index_or sums k None)

-- those that it has for the keys of some locks
abbrev pub sums_of : ℕ → List (Option NodeWait) → List Lock → List NodeWait
sums_of n sums ls = filter_map (λ l. sum_at n sums l.key) ls

-- a table has for each key what some single waits of node n add up to, and nothing of nodes after
-- it
pub record AreSums (tree : List Row) (n : ℕ) (ws : List Wait)
    (sums : List (Option NodeWait)) : Type 0 where
  pub size : length sums ≡ length (keys tree)
  pub all : (k : ℕ) → k < length (keys tree) → sum_at n sums k ≡ wait_for tree n ws k
  pub before : (k : ℕ) → k < length (keys tree)
      → IfSome (slice_index_or sums k None) (λ sum. sum.node ≤ n)
