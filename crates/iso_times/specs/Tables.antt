-- What the table of a run's bodies has, and what is answered of it.
--
-- times of bodies: Where a body stands among those of all nodes (`slot_of`), and its time, if it
-- has one (`time_in`); the first begin of all (`first_begin`), a time counted from it (`since`),
-- and the whole microseconds that a node's bodies took (`took`, `micros_of`).
use Rattle.std.specs.Prelude.{◌||◌, cond, is_some, ℕ, ◌+◌, ◌-◌, ◌*◌, ◌/◌, List, [], ◌∷◌, map, min, Option, Some, None, slice_index_or}
use Rattle.std.specs.List.{range_with_len}
use Rattle.iso_lifecycle.specs.declared.kind.BodyKind.{BodyKind}
use Rattle.iso_lifecycle.specs.declared.kind.BodyKind.TheVariants.{BeforeAll, Test, AfterAll}
use Rattle.iso_times.specs.declared.times.BodyTime.{BodyTime}

-- the place of a node's body: each node has two, of which the second is that of a class's
-- `after_all`
abbrev pub slot_of : ℕ → BodyKind → ℕ
slot_of node BeforeAll = 2 * node
slot_of node Test = 2 * node
slot_of node AfterAll = 2 * node + 1

-- the time of a node's body
abbrev pub time_in : List (Option BodyTime) → ℕ → BodyKind → Option BodyTime
time_in bodies node kind = slice_index_or bodies (slot_of node kind) None

-- the earlier of a body's begin, where it has a time, and another moment
abbrev pub earlier : Option BodyTime → ℕ → ℕ
earlier None at = at
earlier (Some b) at = min b.begin at

-- the first begin; the largest number where no body has a time
abbrev pub first_begin : List (Option BodyTime) → ℕ
first_begin [] = 18446744073709551615
first_begin (b ∷ bs) = earlier b (first_begin bs)

-- a time counted from a moment
abbrev pub since : ℕ → BodyTime → BodyTime
since first b = record b { begin = b.begin - first; end = b.end - first }

-- the whole microseconds that a body took
abbrev pub took : BodyTime → ℕ
took b = (b.end - b.begin) / 1000

-- the same where it has a time, else none
abbrev pub micros : Option BodyTime → ℕ
micros None = 0
micros (Some b) = took b

-- the microseconds that the bodies of a node took: a test's, or a class's own two
abbrev pub micros_of : List (Option BodyTime) → ℕ → ℕ
micros_of bodies node =
    micros (time_in bodies node BeforeAll) + micros (time_in bodies node AfterAll)

-- the same, none where neither body has a time
abbrev pub node_time : List (Option BodyTime) → ℕ → Option ℕ
node_time bodies node =
    let opening = time_in bodies node BeforeAll in
    let closing = time_in bodies node AfterAll in
    cond (is_some opening || is_some closing) (Some (micros opening + micros closing)) None

-- the same of each of `nodes` nodes
abbrev pub times_by_node : List (Option BodyTime) → (nodes : ℕ) → List (Option ℕ)
times_by_node bodies nodes = map (node_time bodies) (range_with_len 0 nodes)
