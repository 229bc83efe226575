-- Why an event is refused, in words.
use Rattle.std.specs.Prelude.{ℕ, List, [], ◌∷◌, ◌++◌, Bool, true, false, Option, None, Some, ◌==◌, ◌||◌, codes, cond, length, nat_le, nat_lt, slice_index_or, unwrap_or}
use Rattle.iso_model.specs.declared.access.Access.{Access}
use Rattle.iso_model.specs.declared.access.Access.TheVariants.{Read, Write}
use Rattle.iso_plan.specs.KeyTable.{keys}
use Rattle.iso_plan.specs.Locks.{locks}
use Rattle.iso_plan.specs.Paths.{parent_of}
use Rattle.iso_plan.specs.Tree.{Row}
use Rattle.iso_standing.specs.declared.event.Event.{Event}
use Rattle.iso_standing.specs.declared.event.Event.TheVariants.{Enter, Leave, Shut, Step}
use Rattle.iso_standing.specs.declared.refused.Refused.{Refused}
use Rattle.iso_standing.specs.declared.refused.Refused.TheVariants as R
use Rattle.iso_explain_plan.specs.Clashes.{first_clash}
use Rattle.iso_explain_plan.specs.Notes.{note}
use Rattle.iso_explain_plan.specs.Parts.{node_text, shown}
use Rattle.iso_explain_plan.specs.Reasons.{busy_note, children_note, closed_note, earlier_note, earlier_top_note, ended_note, entered_note, no_body_note, no_node_note, no_worker_note, not_class_note, not_ended_note, not_first_note, not_open_note, not_owner_note, not_shutter_note, root_entered_note, root_shut_note, stopped_note}
use Rattle.iso_explain_plan.specs.declared.clash.Clash.{Clash}

-- the worker of an event, and its node; the root of one that has none
abbrev pub worker_of : Event → ℕ
worker_of (Enter worker node) = worker
worker_of (Step worker) = worker
worker_of (Leave worker) = worker
worker_of (Shut worker node) = worker

abbrev pub node_of : Event → ℕ
node_of (Enter worker node) = node
node_of (Step worker) = 0
node_of (Leave worker) = 0
node_of (Shut worker node) = node

-- the parent of a node; the root of one that isn't there
abbrev pub class_in : List Row → ℕ → ℕ
class_in tree node = cond (nat_lt node (length tree)) (unwrap_or (parent_of tree node) 0) 0

-- a node was entered before, as the root is; a node is no class
abbrev pub entered_before_note : List Row → ℕ → List ℕ
entered_before_note tree node = cond (node == 0) root_entered_note (entered_note tree node)

abbrev pub no_class_note : List Row → ℕ → List ℕ
no_class_note tree node = cond (node == 0) root_shut_note (not_class_note tree node)

-- which worker has to enter a node, or shut it
abbrev pub enter_owner_note : List Row → ℕ → List ℕ
enter_owner_note tree node =
    cond (class_in tree node == 0) (not_first_note tree node)
    (not_owner_note tree node (class_in tree node))

abbrev pub is_shut : Event → Bool
is_shut (Shut worker node) = true
is_shut _ = false

abbrev pub owner_note : List Row → Event → ℕ → List ℕ
owner_note tree event node =
    cond (is_shut event) (not_shutter_note tree node) (enter_owner_note tree node)

-- which nodes have to be finished before a node
abbrev pub sibling_note : List Row → ℕ → List ℕ
sibling_note tree node =
    cond (class_in tree node == 0) (earlier_top_note tree node)
    (earlier_note tree node (class_in tree node))

-- how a key is taken, and a key by its number
abbrev pub for_access : Access → List ℕ
for_access Read = codes " for read"
for_access Write = codes " for write"

abbrev pub key_text : List Row → ℕ → List ℕ
key_text tree key = slice_index_or (keys tree) key []

-- which key a node takes and another one holds, and how
abbrev pub clash_note : List Row → (node holder : ℕ) → Clash → List ℕ
clash_note tree node holder found =
    note
    (node_text tree node ∷ codes " takes " ∷ shown (key_text tree found.key)
    ∷ for_access found.taken ∷ codes "; "
    ∷ node_text tree holder ∷ codes " holds it" ∷ for_access found.held
    ∷ codes ", entered and not left" ∷ [])

abbrev pub clash_if : List Row → (node holder : ℕ) → Option Clash → List ℕ
clash_if tree node holder None = []
clash_if tree node holder (Some found) = clash_note tree node holder found

-- the first key that a node takes and another one holds, where both are in the plan
abbrev pub held_note : List Row → (node holder : ℕ) → List ℕ
held_note tree node holder =
    cond (nat_le (length tree) node || nat_le (length tree) holder) []
    (clash_if tree node holder (first_clash (locks tree node) (locks tree holder)))

-- the node that holds it has to be finished
abbrev pub left_first_note : List Row → ℕ → List ℕ
left_first_note tree holder =
    note (node_text tree holder
    ∷ codes " has to be finished first: a test by its leave, a class by the leave of its after_all"
    ∷ [])

abbrev pub locked_notes : List Row → (node holder : ℕ) → List ℕ
locked_notes tree node holder = held_note tree node holder ++ left_first_note tree holder

-- why an event is refused: what would have to come first, or what isn't there
abbrev pub why_notes : List Row → Event → Refused → List ℕ
why_notes tree event R.Stopped = stopped_note
why_notes tree event R.NoWorker = no_worker_note (worker_of event)
why_notes tree event R.NoNode = no_node_note tree (node_of event)
why_notes tree event R.WorkerBusy = busy_note (worker_of event)
why_notes tree event R.ParentClosed = closed_note tree (class_in tree (node_of event))
why_notes tree event R.AlreadyEntered = entered_before_note tree (node_of event)
why_notes tree event R.NotOwner = owner_note tree event (node_of event)
why_notes tree event R.EarlierSibling = sibling_note tree (node_of event)
why_notes tree event (R.LockHeld holder) = locked_notes tree (node_of event) holder
why_notes tree event R.NoBody = no_body_note (worker_of event)
why_notes tree event R.BodyEnded = ended_note (worker_of event)
why_notes tree event R.BodyNotEnded = not_ended_note (worker_of event)
why_notes tree event R.ChildrenLeft = children_note tree (node_of event)
why_notes tree event R.NotClass = no_class_note tree (node_of event)
why_notes tree event R.NotOpen = not_open_note tree (node_of event)
why_notes tree event (R.OtherBody other) = []
why_notes tree event R.Stranger = []
