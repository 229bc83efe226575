-- Which children of an open class are Closed.
use Rattle.std.specs.Prelude.{◌≡◌, ◌≢◌, ℕ, List, length}
use Rattle.iso_desk.specs.Places.{place_of}
use Rattle.iso_desk.specs.declared.place.Place.{Place}
use Rattle.iso_desk.specs.declared.place.Place.TheVariants.{Closed, Open, Over}
use Rattle.iso_model.specs.declared.script.Mode.TheVariants.{Concurrent, SameThread}
use Rattle.iso_plan.specs.Children.{IsChild}
use Rattle.iso_plan.specs.Modes.{mode}
use Rattle.iso_plan.specs.Paths.{parent}
use Rattle.iso_plan.specs.Planned.{Planned}
use Rattle.iso_plan.specs.RowView.{tree_of}

-- a step makes no node Closed that wasn't
abbrev pub ClosesNone : (old new : List Place) → Type 0
ClosesNone old new = (n : ℕ) → place_of new n ≡ Closed → place_of old n ≡ Closed

-- each CONCURRENT child of a class was posted: none is Closed
abbrev pub IsPosted : Planned → ℕ → List Place → Type 0
IsPosted plan class places = (n : ℕ) → IsChild (tree_of plan) class (length plan.rows) n
    → mode (tree_of plan) plan.settings n ≡ Concurrent → place_of places n ≢ Closed

-- each class that is open was posted
abbrev pub ArePosted : Planned → List Place → Type 0
ArePosted plan places = (class : ℕ) → place_of places class ≡ Open → IsPosted plan class places

-- A node comes later: its class was entered and isn't over, and where the class was opened up the
-- node is SAME_THREAD.
pub record ComesLater (plan : Planned) (places : List Place) (n : ℕ) : Type 0 where
  pub entered : place_of places (parent (tree_of plan) n) ≢ Closed
  pub left : place_of places (parent (tree_of plan) n) ≢ Over
  pub next : place_of places (parent (tree_of plan) n) ≡ Open
      → mode (tree_of plan) plan.settings n ≡ SameThread
