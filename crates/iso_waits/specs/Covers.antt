-- What a wait of a node for a key says of the single waits that it is made of.
use Rattle.std.specs.Prelude.{◌≡◌, ℕ, ◌<◌, ◌≤◌, ◌^◌, List, length}
use Rattle.std.specs.List.{sum_by}
use Rattle.iso_waits.specs.AllWaits.{took}
use Rattle.iso_waits.specs.declared.wait.NodeWait.{NodeWait}
use Rattle.iso_waits.specs.declared.wait.Wait.{Wait}

-- a single wait for key k lies within a wait for this key, and isn't longer than its longest
pub record Covers (k : ℕ) (sum : NodeWait) (w : Wait) : Type 0 where
  pub key : sum.key ≡ k
  pub begin : sum.begin ≤ w.begin
  pub end : w.end ≤ sum.end
  pub longest : took w ≤ sum.longest

-- single waits take `sum.time` together, and are `sum.count`, as long as 64 bits can tell it
pub record AddUpTo (ws : List Wait) (sum : NodeWait) : Type 0 where
  pub time : sum_by took ws < 2 ^ 64 → sum.time ≡ sum_by took ws
  pub count : length ws < 2 ^ 64 → sum.count ≡ length ws
