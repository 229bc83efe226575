-- Reasons for which an event is refused, a note each: what would have to come first, or what isn't
-- there.
use Rattle.std.specs.Prelude.{ℕ, ◌-◌, List, [], ◌∷◌, codes, length}
use Rattle.std.specs.Fmt.{decimal}
use Rattle.iso_plan.specs.Tree.{Row}
use Rattle.iso_explain_plan.specs.Notes.{note}
use Rattle.iso_explain_plan.specs.Parts.{node_text}

abbrev pub stopped_note : List ℕ
stopped_note = note (codes "memory ran out in an earlier event" ∷ [])

abbrev pub no_worker_note : ℕ → List ℕ
no_worker_note worker = note (codes "there is no worker " ∷ decimal worker
    ∷ codes ": workers count from 0, and `jtap plan` tells how many there are" ∷ [])

abbrev pub no_node_of_note : (node last : ℕ) → List ℕ
no_node_of_note node last =
    note (codes "there is no node " ∷ decimal node ∷ codes ": classes and tests are 1 to "
    ∷ decimal last ∷ [])

abbrev pub no_node_note : List Row → ℕ → List ℕ
no_node_note tree node = no_node_of_note node (length tree - 1)

abbrev pub busy_note : ℕ → List ℕ
busy_note worker = note (codes "worker " ∷ decimal worker ∷ codes " has a body: `leave "
    ∷ decimal worker ∷ codes "` has to come first" ∷ [])

abbrev pub closed_note : List Row → ℕ → List ℕ
closed_note tree class =
    note (codes "what stands in " ∷ node_text tree class
    ∷ codes " is entered once its before_all was left and ended well, and before its after_all begins" ∷ [])

abbrev pub root_entered_note : List ℕ
root_entered_note = note (codes "node 0 is the root, which no worker enters" ∷ [])

abbrev pub entered_note : List Row → ℕ → List ℕ
entered_note tree node =
    note (node_text tree node ∷ codes " was entered before, and is entered once" ∷ [])

abbrev pub not_first_note : List Row → ℕ → List ℕ
not_first_note tree node =
    note (node_text tree node ∷ codes " is same_thread at the top level: worker 0 has to enter it"
    ∷ [])

abbrev pub not_owner_note : List Row → ℕ → ℕ → List ℕ
not_owner_note tree node class =
    note (node_text tree node ∷ codes " is same_thread: the worker that entered "
    ∷ node_text tree class ∷ codes " has to enter it" ∷ [])

abbrev pub not_shutter_note : List Row → ℕ → List ℕ
not_shutter_note tree node =
    note (codes "the worker that entered " ∷ node_text tree node ∷ codes " has to shut it" ∷ [])

abbrev pub earlier_note : List Row → ℕ → ℕ → List ℕ
earlier_note tree node class =
    note (node_text tree node ∷ codes " is same_thread: each same_thread node before it in "
    ∷ node_text tree class ∷ codes " has to be finished first" ∷ [])

abbrev pub earlier_top_note : List Row → ℕ → List ℕ
earlier_top_note tree node =
    note (node_text tree node
    ∷ codes " is same_thread: each same_thread top-level class before it has to be finished first"
    ∷ [])

abbrev pub no_body_note : ℕ → List ℕ
no_body_note worker = note (codes "worker " ∷ decimal worker
    ∷ codes " has no body: it has to enter or shut a node first" ∷ [])

abbrev pub ended_note : ℕ → List ℕ
ended_note worker = note (codes "the body of worker " ∷ decimal worker
    ∷ codes " has no step left: `leave " ∷ decimal worker ∷ codes "` ends it" ∷ [])

abbrev pub not_ended_note : ℕ → List ℕ
not_ended_note worker = note (codes "the body of worker " ∷ decimal worker
    ∷ codes " has a step left: `step " ∷ decimal worker ∷ codes "` has to come first" ∷ [])

abbrev pub children_note : List Row → ℕ → List ℕ
children_note tree node = note (codes "each class and test in " ∷ node_text tree node
    ∷ codes " has to be finished first" ∷ [])

abbrev pub root_shut_note : List ℕ
root_shut_note = note (codes "node 0 is the root, which no worker shuts" ∷ [])

abbrev pub not_class_note : List Row → ℕ → List ℕ
not_class_note tree node =
    note (node_text tree node ∷ codes " is a test: classes alone are shut" ∷ [])

abbrev pub not_open_note : List Row → ℕ → List ℕ
not_open_note tree node =
    note (node_text tree node ∷ codes " is shut once, and its before_all has to be left first" ∷ [])
