-- The held nodes of a plan, as contracts see them, and how many of them read and write each key.
--
-- held nodes: A plan and the nodes of it that are held (`HeldView`); one more or less of them
-- (`holding`, `releasing`). Of each key it is counted how many of them read and write it
-- (`takers`).
use Rattle.std.specs.Prelude.{◌≡◌, ℕ, zero, suc, ◌+◌, ◌-◌, ◌^◌, ◌<◌, List, [], ◌∷◌, length, replicate, Bool, true, false, ◌||◌, ◌&&◌, ◌==◌, not, cond, slice_index_or, slice_set, refl}
use Rattle.std.specs.Coded.{Coded, code_by, coded×, coded_list, coded_bool}
use Rattle.std.specs.List.{list_any}
use Rattle.iso_model.specs.declared.access.Access.{Access}
use Rattle.iso_model.specs.declared.access.Access.TheVariants.{Read, Write}
use Rattle.iso_plan.specs.KeyGroups.{is_lead}
use Rattle.iso_plan.specs.KeyTable.{keys}
use Rattle.iso_plan.specs.Locks.{is_write, locks}
use Rattle.iso_plan.specs.Planned.{Planned}
use Rattle.iso_plan.specs.Tree.{Row}
use Rattle.iso_plan.specs.contracts.plan.Plan as plan
use Rattle.iso_plan.specs.declared.held_nodes.KeyUse.{KeyUse}
use Rattle.iso_plan.specs.declared.lock.Lock.{Lock}

-- the plan, and of each node by its number whether it is held
pub record HeldView : Type 0 where
  pub plan : Planned
  pub held : List Bool

-- held nodes are stored as their parts
abbrev Parts : Type 0
Parts = Planned × List Bool

abbrev parts : HeldView → Parts
parts v = (v.plan, v.held)

abbrev with_parts : Parts → HeldView
with_parts p = record { plan = p.0; held = p.1 }

abbrev parts_code : Coded Parts
parts_code = coded× plan.the_row.coded (coded_list coded_bool)

abbrev pub held_code : Coded HeldView
held_code = code_by Parts parts_code parts with_parts (λ _. refl)

-- whether a node is held
abbrev pub is_held : List Bool → ℕ → Bool
is_held held n = slice_index_or held n false

-- whether any node is held
abbrev pub any_held : List Bool → Bool
any_held held = list_any (λ h. h) held

-- no node of a plan is held
abbrev pub none_held : Planned → HeldView
none_held plan = record { plan = plan; held = replicate (length plan.rows) false }

-- a node is held besides
abbrev pub holding : ℕ → HeldView → HeldView
holding n v = record v { held = slice_set v.held n true }

-- a node is held no longer
abbrev pub releasing : ℕ → HeldView → HeldView
releasing n v = record v { held = slice_set v.held n false }

-- how many numbers below n pass a test
abbrev pub count : (ℕ → Bool) → ℕ → ℕ
count test zero = 0
count test (suc n) = count test n + cond (test n) 1 0

-- whether two accesses are the same
abbrev pub is_access : Access → Access → Bool
is_access Read Read = true
is_access Read Write = false
is_access Write Read = false
is_access Write Write = true

-- whether one of some locks is on a key in an access
abbrev pub takes_in : Access → ℕ → List Lock → Bool
takes_in a key [] = false
takes_in a key (l ∷ ls) = (l.key == key && is_access a l.access) || takes_in a key ls

-- how many held nodes take a key in an access, by the key's number
abbrev pub takers : List Row → List Bool → Access → ℕ → ℕ
takers tree held a key = count (λ m. is_held held m && takes_in a key (locks tree m)) (length tree)

-- how many nodes are counted that take a key in an access
abbrev pub counted : Access → KeyUse → ℕ
counted Read u = u.reading
counted Write u = u.writing

-- a key that no node is counted for
abbrev pub unused : KeyUse
unused = record { reading = 0; writing = 0 }

-- what is counted for a key, by its number
abbrev pub use_of : List KeyUse → ℕ → KeyUse
use_of uses key = slice_index_or uses key unused

-- each key has the number of held nodes that read it, and of those that write it
pub record AreCounted (tree : List Row) (held : List Bool) (uses : List KeyUse) : Type 0 where
  pub nodes : length held ≡ length tree
  pub table : length uses ≡ length (keys tree)
  pub counts : (a : Access) (key : ℕ) → key < length uses → counted a (use_of uses key)
      ≡ takers tree held a key

-- each lead has the number of held nodes that read it, and of those that write it
pub record AreLeadsCounted (tree : List Row) (held : List Bool) (uses : List KeyUse) : Type 0 where
  pub nodes : length held ≡ length tree
  pub table : length uses ≡ length (keys tree)
  pub counts : (a : Access) (key : ℕ) → key < length uses → is_lead tree key ≡ true
      → counted a (use_of uses key) ≡ takers tree held a key

-- one node more that takes a key in an access
abbrev pub one_more : Access → KeyUse → KeyUse
one_more Read u = record u { reading = u.reading + 1 }
one_more Write u = record u { writing = u.writing + 1 }

-- one node less
abbrev pub one_less : Access → KeyUse → KeyUse
one_less Read u = record u { reading = u.reading - 1 }
one_less Write u = record u { writing = u.writing - 1 }

-- one node more for each of some locks
abbrev pub added : List Lock → List KeyUse → List KeyUse
added [] uses = uses
added (l ∷ ls) uses = added ls (slice_set uses l.key (one_more l.access (use_of uses l.key)))

-- one node less for each of some locks
abbrev pub removed : List Lock → List KeyUse → List KeyUse
removed [] uses = uses
removed (l ∷ ls) uses = removed ls (slice_set uses l.key (one_less l.access (use_of uses l.key)))

-- each of some locks can be counted: its key is in the table, and its number has room
abbrev pub CanAdd : List Lock → List KeyUse → Type 0
CanAdd [] uses = Unit {0}
CanAdd (l ∷ ls) uses =
    (l.key < length uses) × ((counted l.access (use_of uses l.key) + 1 < 2 ^ 64)
    × CanAdd ls (slice_set uses l.key (one_more l.access (use_of uses l.key))))

-- each of some locks is counted
abbrev pub CanRemove : List Lock → List KeyUse → Type 0
CanRemove [] uses = Unit {0}
CanRemove (l ∷ ls) uses =
    (l.key < length uses) × ((0 < counted l.access (use_of uses l.key))
    × CanRemove ls (slice_set uses l.key (one_less l.access (use_of uses l.key))))

-- what is counted for a key excludes a lock on it: a node that writes it, or for READ_WRITE one
-- that reads it
abbrev pub excluded : KeyUse → Lock → Bool
excluded u l = not (u.writing == 0) || (is_write l && not (u.reading == 0))

-- one of some locks is excluded by what is counted
abbrev pub any_excluded : List KeyUse → List Lock → Bool
any_excluded uses [] = false
any_excluded uses (l ∷ ls) = excluded (use_of uses l.key) l || any_excluded uses ls
