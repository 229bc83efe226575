-- Whose the nodes are that stand in lines.
use Rattle.std.specs.Prelude.{◌≡◌, ◌<◌, ◌⊎◌, ℕ, List, Option, None, Some, length, slice_index_or}
use Rattle.iso_desk.specs.Places.{StandsIn}
use Rattle.iso_desk.specs.declared.line.Line.{Line}
use Rattle.iso_desk.specs.declared.line.Line.TheVariants.{Key, Own}
use Rattle.iso_desk.specs.declared.line.Party.{Party}
use Rattle.iso_desk.specs.declared.line.Party.TheVariants.{Everyone, Worker}
use Rattle.iso_desk.specs.declared.place.Place.{Place}
use Rattle.iso_model.specs.declared.script.Mode.TheVariants.{Concurrent, SameThread}
use Rattle.iso_plan.specs.Modes.{mode}
use Rattle.iso_plan.specs.Paths.{parent}
use Rattle.iso_plan.specs.Planned.{Planned}
use Rattle.iso_plan.specs.RowView.{tree_of}

-- the owner of a class that was opened up, of those that are kept by node
abbrev pub owner_of : List (Option ℕ) → ℕ → Option ℕ
owner_of owners n = slice_index_or owners n None

-- a node is a worker's: the worker opened it up, or opened its class up, and it is SAME_THREAD
abbrev pub IsOwned : Planned → List (Option ℕ) → ℕ → ℕ → Type 0
IsOwned plan owners n w = (owner_of owners n ≡ Some w)
    ⊎ ((mode (tree_of plan) plan.settings n ≡ SameThread)
    × (owner_of owners (parent (tree_of plan) n) ≡ Some w))

-- a node is a party's: everyone's where it is CONCURRENT
abbrev pub BelongsTo : Planned → List (Option ℕ) → ℕ → Party → Type 0
BelongsTo plan owners n Everyone = mode (tree_of plan) plan.settings n ≡ Concurrent
BelongsTo plan owners n (Worker w) = IsOwned plan owners n w

-- the party whose line it is
abbrev pub party_in : Line → Party
party_in (Key l) = l.party
party_in (Own w) = Worker w

-- each node that stands in a line is the party's whose line it is
abbrev pub StandRightly : Planned → List (Option ℕ) → List Place → Type 0
StandRightly plan owners places =
    (n : ℕ) (l : Line) → StandsIn places l n → BelongsTo plan owners n (party_in l)

-- a worker may attempt a node: the node is of the plan, and it is CONCURRENT or the worker's
pub record MayTry (plan : Planned) (owners : List (Option ℕ)) (n w : ℕ) : Type 0 where
  pub within : n < length plan.rows
  pub own : (mode (tree_of plan) plan.settings n ≡ Concurrent) ⊎ IsOwned plan owners n w
