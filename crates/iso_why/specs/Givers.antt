-- Which nodes gave a node its locks.
--
-- who gave a lock: The nodes at or under the one that takes it whose effective marks declare the
-- key in that access; the global key, those that ask for isolation (`gives`, `givers`).
use Rattle.std.specs.Prelude.{ℕ, List, [], Option, Some, None, Bool, true, false, ◌==◌, cond, filter, slice_index_or}
use Rattle.iso_model.specs.declared.access.Access.{Access}
use Rattle.iso_model.specs.declared.access.Access.TheVariants.{Read, Write}
use Rattle.iso_plan.specs.KeyTable.{keys}
use Rattle.iso_plan.specs.Locks.{declared, isolates}
use Rattle.iso_plan.specs.Paths.{nodes_under}
use Rattle.iso_plan.specs.Tree.{Row}
use Rattle.iso_plan.specs.declared.lock.Lock.{Lock}

-- whether an access is this one
abbrev pub is_as : Access → Option Access → Bool
is_as a None = false
is_as Read (Some Read) = true
is_as Read (Some Write) = false
is_as Write (Some Read) = false
is_as Write (Some Write) = true

-- whether a node gives a lock to the node that gathers for it: its marks declare the key in that
-- access. The global key, number 0, is given by what asks for isolation.
abbrev pub gives : List Row → Lock → ℕ → Bool
gives tree l m = cond (l.key == 0) (isolates tree m)
    (is_as l.access (declared tree m (slice_index_or (keys tree) l.key [])))

-- the nodes that gave a node a lock, as they are written: it and its descendants
abbrev pub givers : List Row → ℕ → Lock → List ℕ
givers tree n l = filter (gives tree l) (nodes_under tree n)
