-- How many children of a class aren't over.
use Rattle.std.specs.Prelude.{◌≡◌, ◌≤◌, ◌<◌, ◌==◌, ◌&&◌, ℕ, List, Bool, true, false, length, not, slice_index_or}
use Rattle.iso_desk.specs.Places.{place_of}
use Rattle.iso_desk.specs.declared.place.Place.{Place}
use Rattle.iso_desk.specs.declared.place.Place.TheVariants.{Closed, InLine, Loose, Open, Over, With}
use Rattle.iso_floor.specs.Schedulers.{SchedulerView}
use Rattle.iso_plan.specs.HeldNodes.{count}
use Rattle.iso_plan.specs.Paths.{is_root, parent}
use Rattle.iso_plan.specs.Planned.{Planned}
use Rattle.iso_plan.specs.RowView.{tree_of}

-- how many children of a class aren't over, as that is kept by node
abbrev pub left_in : List ℕ → ℕ → ℕ
left_in left class = slice_index_or left class 0

-- whether a place is one of who is over
abbrev pub is_over : Place → Bool
is_over Closed = false
is_over Loose = false
is_over (InLine s) = false
is_over (With w) = false
is_over Open = false
is_over Over = true

-- whether a node is a child of a class, and isn't over
abbrev pub is_left : Planned → List Place → ℕ → ℕ → Bool
is_left plan places class n =
    (not (is_root n) && parent (tree_of plan) n == class) && not (is_over (place_of places n))

-- how many children of a class aren't over
abbrev pub children_left : Planned → List Place → ℕ → ℕ
children_left plan places class = count (is_left plan places class) (length plan.rows)

-- No more children of a class are kept as left than aren't over, and of each open class but one and
-- the root some are.
pub record HaveLeftBut (but : ℕ → Type 0) (plan : Planned) (s : SchedulerView) : Type 0 where
  pub few : (class : ℕ) → left_in s.left class ≤ children_left plan s.table.places class
  pub some : (class : ℕ) → ¬ but class → 0 < class → place_of s.table.places class ≡ Open
      → 0 < left_in s.left class

-- the same of each open class
abbrev pub HaveLeft : Planned → SchedulerView → Type 0
HaveLeft plan s = HaveLeftBut (λ class. ⊥) plan s
