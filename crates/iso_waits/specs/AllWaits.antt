-- The waits of all nodes: one for each node and key that it waited for.
use Rattle.std.specs.Prelude.{◌≡◌, ℕ, zero, suc, ◌+◌, ◌-◌, ◌<◌, ◌==◌, List, [], ◌∷◌, ◌++◌, Option, Some, None, Bool, cond, filter, length, max, min, nat_lt, true, unwrap_or}
use Rattle.std.specs.List.{filter_map}
use Rattle.iso_plan.specs.Locks.{conflict, locks}
use Rattle.iso_plan.specs.Tree.{Row}
use Rattle.iso_settings.specs.declared.settings.Settings.{Settings}
use Rattle.iso_times.specs.declared.times.BodyTime.{BodyTime}
use Rattle.iso_waits.specs.ContendedKeys.{contended_key}
use Rattle.iso_waits.specs.Waits.{waits}
use Rattle.iso_waits.specs.declared.wait.NodeWait.{NodeWait}
use Rattle.iso_waits.specs.declared.wait.Wait.{Wait}

-- a wait is for a node of the tree, which conflicts with node n
pub record IsFor (tree : List Row) (n : ℕ) (w : Wait) : Type 0 where
  pub within : w.holder < length tree
  pub conflicts : conflict tree w.holder n ≡ true

-- the key that node n waits for by a wait: the lowest on which the two nodes conflict. There is
-- one, since they do.
abbrev pub key_of : List Row → ℕ → Wait → ℕ
key_of tree n w = unwrap_or (contended_key tree n w.holder) 0

abbrev pub has_key : List Row → ℕ → ℕ → Wait → Bool
has_key tree n k w = key_of tree n w == k

-- how long a single wait is
abbrev pub took : Wait → ℕ
took w = w.end - w.begin

-- added up, at most the largest number that is told
abbrev pub plus : ℕ → ℕ → ℕ
plus a b = min (a + b) 18446744073709551615

-- the wait of node n for key k that a single wait makes by itself
abbrev pub alone : ℕ → ℕ → Wait → NodeWait
alone n k w =
    record {
      node = n;
      key = k;
      begin = w.begin;
      end = w.end;
      time = took w;
      count = 1;
      holder = w.holder;
      longest = took w;
      last = w.holder;
    }

-- the same with a single wait more, which is a later one
abbrev pub with_later : NodeWait → Wait → NodeWait
with_later sum w =
    record {
      node = sum.node;
      key = sum.key;
      begin = sum.begin;
      end = w.end;
      time = plus sum.time (took w);
      count = plus sum.count 1;
      holder = cond (nat_lt sum.longest (took w)) w.holder sum.holder;
      longest = max sum.longest (took w);
      last = w.holder;
    }

-- with a single wait more, which may be the first
abbrev pub and_then : ℕ → ℕ → Option NodeWait → Wait → NodeWait
and_then n k None w = alone n k w
and_then n k (Some sum) w = with_later sum w

-- what single waits of node n for key k, in the order of time, add up to, with what came before
-- them
abbrev pub added_up : ℕ → ℕ → (before : Option NodeWait) → List Wait → Option NodeWait
added_up n k before [] = before
added_up n k before (w ∷ ws) = added_up n k (Some (and_then n k before w)) ws

-- the wait of node n for key k: what those of its single waits that are for this key add up to.
-- None where there are none.
abbrev pub wait_for : List Row → ℕ → List Wait → ℕ → Option NodeWait
wait_for tree n ws k = added_up n k None (filter (has_key tree n k) ws)

-- the waits of node n: for each of its locks, which stand in the order of their keys, that for the
-- key
abbrev pub key_waits : List Row → ℕ → List Wait → List NodeWait
key_waits tree n ws = filter_map (λ l. wait_for tree n ws l.key) (locks tree n)

abbrev pub node_waits : List Row → Settings → List (Option BodyTime) → ℕ → List NodeWait
node_waits tree settings bodies n = key_waits tree n (waits tree settings bodies n)

-- the waits of the first nodes after the root, this number of them
abbrev pub waits_of_first : List Row → Settings → List (Option BodyTime) → ℕ → List NodeWait
waits_of_first tree settings bodies zero = []
waits_of_first tree settings bodies (suc n) =
    waits_of_first tree settings bodies n ++ node_waits tree settings bodies (suc n)

-- the waits of all nodes, in the order of the nodes
abbrev pub all_waits : List Row → Settings → List (Option BodyTime) → List NodeWait
all_waits tree settings bodies = waits_of_first tree settings bodies (length tree - 1)
