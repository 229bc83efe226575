-- What holds of a reason that is told of a node's mode.
use Rattle.std.specs.Prelude.{◌≡◌, ℕ, List, Option, Some, None, Bool, true, false, ◌&&◌, ◌==◌}
use Rattle.std.specs.List.{list_any}
use Rattle.iso_model.specs.declared.script.Mode.TheVariants.{SameThread}
use Rattle.iso_plan.specs.Locks.{is_write, locks}
use Rattle.iso_plan.specs.Modes.{chosen_mode, default_mode, is_forced, mode, nearest_mode}
use Rattle.iso_plan.specs.Paths.{is_top, is_under, parent, path, row_at}
use Rattle.iso_plan.specs.Tree.{Row}
use Rattle.iso_plan.specs.declared.lock.Lock.{Lock}
use Rattle.iso_settings.specs.declared.settings.Settings.{Settings}
use Rattle.iso_why.specs.declared.why.Cause.{Cause}
use Rattle.iso_why.specs.declared.why.Cause.TheVariants.{Off, Forced, Marked, Default}

-- whether a node takes a key, by its number, for READ_WRITE
abbrev pub writes_key : List Row → (node key : ℕ) → Bool
writes_key tree m key = list_any (λ (l : Lock). l.key == key && is_write l) (locks tree m)

-- node n is a descendant of node m, which takes this key for READ_WRITE: that alone puts it on its
-- class's thread
pub record IsForcing (tree : List Row) (s : Settings) (n m key : ℕ) : Type 0 where
  pub parallel : s.parallel ≡ true
  pub above : is_under tree m (parent tree n) ≡ true
  pub writes : writes_key tree m key ≡ true
  pub mode_is : mode tree s n ≡ SameThread

-- nothing forces the node, and its mode is the one that is chosen for it
pub record IsFree (tree : List Row) (s : Settings) (n : ℕ) : Type 0 where
  pub parallel : s.parallel ≡ true
  pub unforced : is_forced tree n ≡ false
  pub mode_is : mode tree s n ≡ chosen_mode tree s n

-- the node m that is marked with the node's mode is it or one of its enclosing classes
pub record IsMarking (tree : List Row) (s : Settings) (n m : ℕ) : Type 0 where
  pub free : IsFree tree s n
  pub above : is_under tree m n ≡ true
  pub mark : (row_at tree m).mode ≡ Some (mode tree s n)

-- neither the node nor any of its enclosing classes is marked with a mode
pub record IsDefault (tree : List Row) (s : Settings) (n : ℕ) (top : Bool) : Type 0 where
  pub free : IsFree tree s n
  pub unmarked : nearest_mode tree (path tree n) ≡ None
  pub is : top ≡ is_top tree n
  pub mode_is : mode tree s n ≡ default_mode tree s n

-- a reason gives a node its mode, each in its way
abbrev pub GivesMode : List Row → Settings → (node : ℕ) → Cause → Type 0
GivesMode tree s n Off = (s.parallel ≡ false) × (mode tree s n ≡ SameThread)
GivesMode tree s n (Forced m key) = IsForcing tree s n m key
GivesMode tree s n (Marked m) = IsMarking tree s n m
GivesMode tree s n (Default top) = IsDefault tree s n top
