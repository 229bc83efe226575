-- That SAME_THREAD children of an open class come one after another.
use Rattle.std.specs.Prelude.{Bool, true, false, ◌≡◌, ◌≢◌, ◌<◌, ◌≤◌, ◌⊎◌, ℕ, List, Option, Some, length, slice_index_or}
use Rattle.iso_desk.specs.Places.{place_of}
use Rattle.iso_desk.specs.declared.place.Place.{Place}
use Rattle.iso_desk.specs.declared.place.Place.TheVariants.{Closed, Loose, InLine, With, Open, Over}
use Rattle.iso_floor.specs.Parties.{owner_of}
use Rattle.iso_floor.specs.Schedulers.{SchedulerView}
use Rattle.iso_model.specs.declared.script.Mode.TheVariants.{Concurrent, SameThread}
use Rattle.iso_plan.specs.Modes.{mode}
use Rattle.iso_plan.specs.Paths.{children, parent}
use Rattle.iso_plan.specs.Planned.{Planned}
use Rattle.iso_plan.specs.RowView.{tree_of}

-- whether a place is an open class's
abbrev pub is_open : Place → Bool
is_open Closed = false
is_open Loose = false
is_open (InLine s) = false
is_open (With w) = false
is_open Open = true
is_open Over = false

-- the child at a place among those of a class
abbrev pub child_at : Planned → ℕ → ℕ → ℕ
child_at plan class k = slice_index_or (children (tree_of plan) class) k 0

-- there is a child at a place among those of a class, and it is SAME_THREAD
pub record IsAlone (plan : Planned) (class k : ℕ) : Type 0 where
  pub within : k < length (children (tree_of plan) class)
  pub alone : mode (tree_of plan) plan.settings (child_at plan class k) ≡ SameThread

-- a SAME_THREAD child that stands before a node in its class isn't over
pub record HasEarlier (plan : Planned) (places : List Place) (n : ℕ) : Type 0 where
  pub place : ℕ
  pub is : child_at plan (parent (tree_of plan) n) place ≡ n
  pub earlier : ℕ
  pub before : earlier < place
  pub alone : IsAlone plan (parent (tree_of plan) n) earlier
  pub left : place_of places (child_at plan (parent (tree_of plan) n) earlier) ≢ Over

-- each SAME_THREAD child of an open class that is Closed comes after one that isn't over
abbrev pub ArePreceded : Planned → List Place → Type 0
ArePreceded plan places = (n : ℕ) → 0 < n → n < length plan.rows → place_of places n ≡ Closed
    → mode (tree_of plan) plan.settings n ≡ SameThread
    → place_of places (parent (tree_of plan) n) ≡ Open → HasEarlier plan places n

-- how many children of a class were looked at for the next that its owner alone may enter
abbrev pub passed_in : List ℕ → ℕ → ℕ
passed_in passed class = slice_index_or passed class 0

-- no child of some at these places is SAME_THREAD
abbrev pub AreConcurrent : Planned → List ℕ → ℕ → ℕ → Type 0
AreConcurrent plan ns from to = (k : ℕ) → from ≤ k → k < to
    → mode (tree_of plan) plan.settings (slice_index_or ns k 0) ≡ Concurrent

-- each SAME_THREAD child among the first of a class was given to the class's owner: it isn't Closed
abbrev pub WereGiven : Planned → ℕ → ℕ → List Place → Type 0
WereGiven plan class count places = (k : ℕ) → k < count → IsAlone plan class k
    → place_of places (child_at plan class k) ≢ Closed

-- a SAME_THREAD child among the first of a class isn't over
pub record GoesOn (plan : Planned) (class count : ℕ) (places : List Place) : Type 0 where
  pub place : ℕ
  pub below : place < count
  pub alone : IsAlone plan class place
  pub left : place_of places (child_at plan class place) ≢ Over

-- or there are no more children
abbrev pub HasNext : Planned → ℕ → ℕ → List Place → Type 0
HasNext plan class count places =
    GoesOn plan class count places ⊎ (length (children (tree_of plan) class) ≤ count)

-- a class has an owner, which is one of the workers, who are `workers`
pub record HasOwner (owners : List (Option ℕ)) (workers class : ℕ) : Type 0 where
  pub owner : ℕ
  pub is : owner_of owners class ≡ Some owner
  pub below : owner < workers

-- In each open class but one the SAME_THREAD children come one after another: those that were
-- looked at aren't Closed, and one of them isn't over, or all were looked at. Each open class has
-- an owner.
pub record ComeInTurnBut (but : ℕ → Type 0) (plan : Planned) (s : SchedulerView) : Type 0 where
  pub places_are : length s.table.places ≡ length plan.rows
  pub owners_are : length s.owners ≡ length plan.rows
  pub passed_are : length s.passed ≡ length plan.rows
  pub given : (class : ℕ) → WereGiven plan class (passed_in s.passed class) s.table.places
  pub owned : (class : ℕ) → place_of s.table.places class ≡ Open
      → HasOwner s.owners s.table.workers class
  pub next : (class : ℕ) → ¬ but class → place_of s.table.places class ≡ Open
      → HasNext plan class (passed_in s.passed class) s.table.places

-- the same of each open class
abbrev pub ComeInTurn : Planned → SchedulerView → Type 0
ComeInTurn plan s = ComeInTurnBut (λ class. ⊥) plan s
