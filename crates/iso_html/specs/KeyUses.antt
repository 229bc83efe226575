-- How the keys of a run were used.
use Rattle.std.specs.Prelude.{ℕ, zero, suc, ◌-◌, List, Option, Some, None, ◌==◌, cond, filter, length, slice_index_or}
use Rattle.std.specs.List.{fold}
use Rattle.iso_model.specs.declared.access.Access.{Access}
use Rattle.iso_model.specs.declared.access.Access.TheVariants.{Read, Write}
use Rattle.iso_plan.specs.KeyTable.{keys}
use Rattle.iso_plan.specs.Locks.{locks}
use Rattle.iso_plan.specs.Paths.{column}
use Rattle.iso_plan.specs.Tree.{Row}
use Rattle.iso_plan.specs.declared.lock.Lock.{Lock}
use Rattle.iso_stats.specs.Measures.{plus}
use Rattle.iso_times.specs.declared.times.BodyTime.{BodyTime}
use Rattle.iso_waits.specs.Stays.{stayed}
use Rattle.iso_waits.specs.declared.stay.Stay.{Stay}
use Rattle.iso_waits.specs.declared.wait.NodeWait.{NodeWait}
use Rattle.iso_html.specs.declared.usage.Usage.{Usage}

-- how long a node was entered: from the begin of its first body until the end of its last one
abbrev pub stay_time : Option Stay → ℕ
stay_time None = 0
stay_time (Some s) = s.end - s.begin

-- the locks on a key
abbrev pub locks_on : (key : ℕ) → List Lock → List Lock
locks_on key ls = filter (λ (l : Lock). l.key == key) ls

-- nobody took a key
abbrev pub no_usage : Usage
no_usage = record { readers = 0; writers = 0; held = 0; waits = 0; waited = 0 }

-- one node more, which takes it so and was entered for a time
abbrev pub with_taker : Access → (time : ℕ) → Usage → Usage
with_taker Read time u = record {
  readers = plus u.readers 1;
  writers = u.writers;
  held = plus u.held time;
  waits = u.waits;
  waited = u.waited;
}
with_taker Write time u = record {
  readers = u.readers;
  writers = plus u.writers 1;
  held = plus u.held time;
  waits = u.waits;
  waited = u.waited;
}

-- the same of one of its locks, where it is on the key
abbrev pub with_lock : (key time : ℕ) → Usage → Lock → Usage
with_lock key time u l = cond (l.key == key) (with_taker l.access time u) u

-- how the nodes with a number below n took it; the law `nodes_take_a_key_once` says that no key
-- stands twice among the locks of a node
abbrev pub usage_below : List Row → List (Option BodyTime) → (key : ℕ) → ℕ → Usage
usage_below tree bodies key zero = no_usage
usage_below tree bodies key (suc n) = fold (with_lock key (stay_time (stayed bodies n)))
    (usage_below tree bodies key n) (locks tree n)

-- one node more, which waited for a time
abbrev pub with_wait : (time : ℕ) → Usage → Usage
with_wait time u = record {
  readers = u.readers;
  writers = u.writers;
  held = u.held;
  waits = plus u.waits 1;
  waited = plus u.waited time;
}

-- the same, where it waited for the key
abbrev pub with_wait_for : (key : ℕ) → Usage → NodeWait → Usage
with_wait_for key u w = cond (w.key == key) (with_wait w.time u) u

-- how a key was used: how many nodes take it for READ and for READ_WRITE, how long they were
-- entered, added up, and how many nodes waited for it and how long, added up
abbrev pub usage_of : List Row → List (Option BodyTime) → List NodeWait → (key : ℕ) → Usage
usage_of tree bodies waits key =
    fold (with_wait_for key) (usage_below tree bodies key (length tree)) waits

-- that of all keys, by their numbers
abbrev pub usages : List Row → List (Option BodyTime) → List NodeWait → List Usage
usages tree bodies waits = column (usage_of tree bodies waits) (length (keys tree))

-- the one of the key with a number
abbrev pub usage_at : List Usage → (key : ℕ) → Usage
usage_at us key = slice_index_or us key no_usage
