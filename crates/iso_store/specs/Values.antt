-- Values as they are kept: what they started as, and over it what was changed.
--
-- a value as it is kept: What it started as, and over it layers of what was changed between two
-- marks, the newest first (`resource_of`, `over`): of properties by name, of the locale and of a
-- file in one place (`place_in`, `properties_over`, `locale_over`, `nameless`). A layer has a
-- name's text, or none where it was cleared (`Places`, `overlaid`). Its history is that of the
-- values before each change (`history`); layers and a number of changes that are those of a mark
-- (`IsMoment`).
-- Also in: `Layers`, `Places`.
use Rattle.std.specs.Prelude.{◌≡◌, ℕ, List, length, map, reverse}
use Rattle.std.specs.declared.snapshot.Snapshot.{Snapshot}
use Rattle.iso_model.specs.declared.resource.Resource.{Resource}
use Rattle.iso_store.specs.Histories.{History, start_of}
use Rattle.iso_store.specs.Layers.{over}
use Rattle.iso_store.specs.Places.{Places}
use Rattle.iso_store.specs.declared.value.Value.{Value}

-- the resource that a value stands for
abbrev pub resource_of : Value → Resource
resource_of v = over v.layers v.start

-- the history of a value, of which these stood before each change, the oldest first
abbrev pub history : List (Snapshot Value) → Value → History
history before value =
    record { now = resource_of value; past = reverse (map (λ s. resource_of s.value) before) }

-- layers over the start and a number of changes are those of a moment
pub record IsMoment (layers : List Places) (changes : ℕ) (moment : History) : Type 0 where
  pub now : moment.now ≡ over layers (start_of moment)
  pub changes_are : changes ≡ length moment.past
