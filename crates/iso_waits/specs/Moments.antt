-- Who is in the way at each moment, and what waits that makes.
--
-- waits: Who is in a node's way at a moment: the lowest node that is entered, hasn't finished and
-- conflicts with it (`holder`; `stayed`, `is_entered`). When a node is ready: its class is open,
-- and the SAME_THREAD sibling that it has to let finish has finished (`ready`, `opened`,
-- `earlier`). What it waits for from then until it is entered, moment by moment (`waited`): a
-- single wait for each node and each time that it is in the way without a break (`waits`). Each is
-- for the lowest key on which the two conflict (`key_of`, `contended_key`). What those of a node
-- for one key add up to (`wait_for`, `added_up`), and so the waits of all nodes, one for each node
-- and key that it waited for (`all_waits`). Whether single waits stand in turn (`AreInTurn`), who
-- is waited for at a moment (`waited_for`), and what a wait for a key says of its single waits
-- (`Covers`, `AddUpTo`).
-- Also in: `Stays`, `Waits`, `ContendedKeys`, `AllWaits`, `Covers`, `Turns`.
use Rattle.std.specs.Prelude.{ℕ, zero, suc, ◌+◌, ◌-◌, List, [], ◌∷◌, ◌++◌, Option, Some, None, Bool, ◌&&◌, ◌==◌, cond, min, nat_le, nat_lt}
use Rattle.iso_waits.specs.declared.stay.Stay.{Stay}
use Rattle.iso_waits.specs.declared.wait.Wait.{Wait}

-- when a stay began
abbrev pub begin_of : Stay → ℕ
begin_of s = s.begin

-- whether a node is entered at a moment, and has not finished
abbrev pub is_at : ℕ → Stay → Bool
is_at t s = nat_le s.begin t && nat_lt t s.end

-- the lower of a node, if there is one, and another
abbrev pub lower : Option ℕ → ℕ → ℕ
lower None n = n
lower (Some m) n = min m n

-- the lower of two nodes, of which either may be missing
abbrev pub lower_of : Option ℕ → Option ℕ → Option ℕ
lower_of o None = o
lower_of o (Some n) = Some (lower o n)

-- the node of a stay, while it is entered
abbrev pub node_at : ℕ → Stay → Option ℕ
node_at t s = cond (is_at t s) (Some s.node) None

-- the lowest node of some stays that is entered at a moment
abbrev pub lowest_at : ℕ → List Stay → Option ℕ
lowest_at t [] = None
lowest_at t (s ∷ ss) = lower_of (node_at t s) (lowest_at t ss)

-- what was waited for up to a moment: the waits that are over, and the one that goes on, if one
-- does
pub record Waited : Type 0 where
  pub over : List Wait
  pub last : Option Wait

abbrev pub nothing_told : Waited
nothing_told = record { over = []; last = None }

-- a wait, if there is one
abbrev pub listed : Option Wait → List Wait
listed None = []
listed (Some w) = w ∷ []

abbrev pub all_of : Waited → List Wait
all_of w = w.over ++ listed w.last

-- nobody is in the way: the last wait is over
abbrev pub closed : Waited → Waited
closed w = record { over = all_of w; last = None }

abbrev pub waiting : List Wait → ℕ → ℕ → ℕ → Waited
waiting over m from until =
    record { over = over; last = Some (record { holder = m; begin = from; end = until }) }

-- node m is in the way from a moment until another: the wait for it goes on, or else begins
abbrev pub held : ℕ → ℕ → ℕ → List Wait → Option Wait → Waited
held from until m over None = waiting over m from until
held from until m over (Some w) =
    cond (w.holder == m) (waiting over m w.begin until) (waiting (over ++ w ∷ []) m from until)

-- what was waited for, where from a moment until another this node is in the way, or none is
abbrev pub goes_on : ℕ → ℕ → Option ℕ → Waited → Waited
goes_on from until None w = closed w
goes_on from until (Some m) w = held from until m w.over w.last

-- what was waited for in this number of nanoseconds from a moment on, where a function says who is
-- in the way at each
abbrev pub waited : (ℕ → Option ℕ) → ℕ → ℕ → Waited
waited holder from zero = nothing_told
waited holder from (suc n) =
    goes_on (from + n) (from + n + 1) (holder (from + n)) (waited holder from n)

-- the waits from a moment until another: one for each node and each time that it is in the way
-- without a break
abbrev pub waits_within : (ℕ → Option ℕ) → ℕ → ℕ → List Wait
waits_within holder from until = all_of (waited holder from (until - from))
