-- Which keys the held nodes take, as marks.
--
-- marks of keys: The keys that a held node takes, and those that one takes for READ_WRITE
-- (`KeysView`, `AreMarks`); the marks of a node's keys made anew (`AreRenewed`); a lock that a held
-- node excludes (`is_excluded`). No public clause cites it.
use Rattle.std.specs.Prelude.{◌≡◌, ◌<◌, ◌≤◌, ℕ, List, Bool, true, ◌==◌, ◌||◌, ◌&&◌, not, cond}
use Rattle.std.specs.List.{list_any}
use Rattle.iso_desk.specs.Marking.{has, room}
use Rattle.iso_desk.specs.declared.marks.Marks.{Marks}
use Rattle.iso_model.specs.declared.access.Access.{Access}
use Rattle.iso_model.specs.declared.access.Access.TheVariants.{Read, Write}
use Rattle.iso_plan.specs.HeldNodes.{takers}
use Rattle.iso_plan.specs.Locks.{is_write}
use Rattle.iso_plan.specs.Tree.{Row}
use Rattle.iso_plan.specs.declared.lock.Lock.{Lock}

-- the keys that a held node takes, and those that one takes for READ_WRITE
pub record KeysView : Type 0 where
  pub held : Marks
  pub written : Marks

-- both sets have room for each key, and who writes a key holds it
pub record AreMarks (v : KeysView) : Type 0 where
  pub held : 256 ≤ room v.held
  pub written : 256 ≤ room v.written
  pub both : (k : ℕ) → k < 256 → has v.written k ≡ true → has v.held k ≡ true

-- whether a held node takes a key in an access
abbrev pub is_taken : List Row → List Bool → Access → ℕ → Bool
is_taken tree nodes a k = not (takers tree nodes a k == 0)

-- whether a held node excludes a lock: it takes the key too, one of the two for READ_WRITE
abbrev pub is_excluded : List Row → List Bool → Lock → Bool
is_excluded tree nodes l =
    is_taken tree nodes Write l.key || (is_write l && is_taken tree nodes Read l.key)

-- a mark of a key that is made anew where one of some locks is on the key, and stays elsewhere
abbrev pub renewed : List Lock → ℕ → Bool → Bool → Bool
renewed locks k now before = cond (list_any (λ l. k == l.key) locks) now before

-- the keys of some locks are marked as the held nodes take them, and all others as they were
pub record AreRenewed (tree : List Row) (nodes : List Bool) (locks : List Lock)
    (old new : KeysView) : Type 0 where
  pub written : (k : ℕ) → k < 256 → has new.written k
      ≡ renewed locks k (is_taken tree nodes Write k) (has old.written k)
  pub held : (k : ℕ) → k < 256 → has new.held k
      ≡ renewed locks k (is_taken tree nodes Write k || is_taken tree nodes Read k) (has old.held k)
