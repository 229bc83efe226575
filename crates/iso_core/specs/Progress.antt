-- The events by which a core may go on.
--
-- going on: That a core refuses an event for another reason than that memory ran out (`Refuses`);
-- the Shut of a class by its owner, and the Enter of a node by the owner of its parent
-- (`shut_by_owner`, `entered_by_owner`).
use Rattle.std.specs.Prelude.{◌≡◌, ℕ, false, is_none}
use Rattle.iso_core.specs.Cores.{CoreView, refusal_in, state_in}
use Rattle.iso_plan.specs.Paths.{parent}
use Rattle.iso_plan.specs.RowView.{tree_of}
use Rattle.iso_standing.specs.declared.event.Event.{Event}
use Rattle.iso_standing.specs.declared.event.Event.TheVariants.{Enter, Shut}

-- an event is refused, for another reason than that memory ran out
abbrev pub Refuses : CoreView → Event → Type 0
Refuses c e = is_none (refusal_in c e) ≡ false

-- a class is shut by its owner, and a node is entered by the owner of its parent
abbrev pub shut_by_owner : CoreView → ℕ → Event
shut_by_owner c n = Shut ((state_in c).owner n) n

abbrev pub entered_by_owner : CoreView → ℕ → Event
entered_by_owner c n = Enter ((state_in c).owner (parent (tree_of c.plan) n)) n
