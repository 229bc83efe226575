-- What a change makes of the nodes of two suites.
--
-- fate of a node: What a change makes of a node: it agrees with its namesake in the old suite, it
-- doesn't, or it has none (`IsFate`, `AreFates`); the nodes of the old suite that have none in the
-- new one (`gone`). Told of are tests, and classes with a statement in their `before_all` or
-- `after_all` (`is_listed`).
-- Also in: `Listed`.
use Rattle.std.specs.Prelude.{◌≡◌, ℕ, ◌<◌, List, Some, None, Bool, is_none, length, slice_index_or}
use Rattle.iso_affected.specs.Agreeing.{NodesAgree}
use Rattle.iso_affected.specs.Namesakes.{namesake}
use Rattle.iso_affected.specs.declared.affected.Fate.{Fate}
use Rattle.iso_affected.specs.declared.affected.Fate.TheVariants.{Same, Changed, New}
use Rattle.iso_lifecycle.specs.Subjects.{Subject, subject}
use Rattle.iso_plan.specs.Planned.{Planned}
use Rattle.iso_plan.specs.RowView.{tree_of}
use Rattle.iso_plan.specs.KeptNodes.{those_below}
use Rattle.iso_plan.specs.Tree.{Row}
use Rattle.iso_settings.specs.Worlds.{Start}

-- two suites: a plan on starting values before a change, and one after it
pub record Suites : Type 0 where
  pub old : Planned
  pub before : Start
  pub new : Planned
  pub after : Start

abbrev pub suites : Planned → Start → Planned → Start → Suites
suites old before new after = record { old = old; before = before; new = new; after = after }

-- a node of the old suite, and one of the new
abbrev pub in_old : Suites → ℕ → Subject
in_old s m = subject s.old s.before m

abbrev pub in_new : Suites → ℕ → Subject
in_new s n = subject s.new s.after n

-- node m of the old suite is the namesake of node n of the new one
pub record IsNamesake (s : Suites) (n m : ℕ) : Type 0 where
  pub within : m < length s.old.rows
  pub is : namesake (tree_of s.old) (tree_of s.new) n ≡ Some m

-- what a change makes of a node of the new suite: it agrees with its namesake in the old one, it
-- doesn't, or it has none
abbrev pub IsFate : Suites → ℕ → Fate → Type 0
IsFate s n (Same m) = IsNamesake s n m × NodesAgree (in_old s m) (in_new s n)
IsFate s n (Changed m) = IsNamesake s n m × (NodesAgree (in_old s m) (in_new s n) → ⊥)
IsFate s n New = namesake (tree_of s.old) (tree_of s.new) n ≡ None

-- each node of the new suite has the fate that stands at its number
abbrev pub AreFates : Suites → List Fate → Type 0
AreFates s fates = (n : ℕ) → n < length s.new.rows → IsFate s n (slice_index_or fates n New)

-- whether a node of the first tree has no namesake in the second
abbrev pub has_gone : (old new : List Row) → ℕ → Bool
has_gone old new m = is_none (namesake new old m)

-- the nodes of the first tree that have none, in order
abbrev pub gone : (old new : List Row) → List ℕ
gone old new = those_below (has_gone old new) (length old)

-- a node of a tree that isn't the root
pub record IsNode (tree : List Row) (n : ℕ) : Type 0 where
  pub above : 0 < n
  pub within : n < length tree
