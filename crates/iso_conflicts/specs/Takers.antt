-- Which nodes take a key, by its number, and how.
--
-- takers of a key: The nodes whose locks have the key in an access, as they are written (`takes`,
-- `takers`).
use Rattle.std.specs.Prelude.{ℕ, ◌-◌, List, [], ◌∷◌, Option, Some, None, Bool, true, false, ◌==◌, cond, filter, length}
use Rattle.std.specs.List.{range_with_len}
use Rattle.iso_model.specs.declared.access.Access.{Access}
use Rattle.iso_model.specs.declared.access.Access.TheVariants.{Read, Write}
use Rattle.iso_plan.specs.Locks.{locks}
use Rattle.iso_plan.specs.Tree.{Row}
use Rattle.iso_plan.specs.declared.lock.Lock.{Lock}

-- the access with which locks take a key, if they do: no key stands twice among those of a node
abbrev pub access_on : (key : ℕ) → List Lock → Option Access
access_on key [] = None
access_on key (l ∷ ls) = cond (l.key == key) (Some l.access) (access_on key ls)

-- whether an access is this one
abbrev pub is_as : Access → Option Access → Bool
is_as a None = false
is_as Read (Some Read) = true
is_as Read (Some Write) = false
is_as Write (Some Read) = false
is_as Write (Some Write) = true

-- whether a node takes a key with this access: of its own locks, with no other
abbrev pub takes : List Row → Access → (key : ℕ) → ℕ → Bool
takes tree a key n = is_as a (access_on key (locks tree n))

-- the nodes that do, as they are written
abbrev pub takers : List Row → Access → (key : ℕ) → List ℕ
takers tree a key = filter (takes tree a key) (range_with_len 1 (length tree - 1))
