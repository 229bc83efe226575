-- What results keep of each node, and what the definitions say of that.
--
-- what results keep: An entry for each node, each with what the definitions say of the node
-- (`IsKept`, `AreKept`), and what contracts see of them (`seen`). No public clause cites it.
use Rattle.std.specs.Prelude.{◌≡◌, ℕ, List, Bool, true, false, length, map, slice_index_or}
use Rattle.iso_model.specs.declared.outcome.Outcome.{Outcome}
use Rattle.iso_plan.specs.Paths.{row_at}
use Rattle.iso_plan.specs.Planned.{Planned}
use Rattle.iso_plan.specs.RowView.{tree_of}
use Rattle.iso_settings.specs.Worlds.{Start}
use Rattle.iso_lifecycle.specs.Ends.{IsClosing, IsOpening, outcome_of}
use Rattle.iso_lifecycle.specs.ResultViews.{ResultsView}
use Rattle.iso_lifecycle.specs.Subjects.{Subject, is_kind_of, subject}
use Rattle.iso_lifecycle.specs.declared.done.Closed as Closings
use Rattle.iso_lifecycle.specs.declared.done.Opened as Openings
use Rattle.iso_lifecycle.specs.declared.done.What.{What}
use Rattle.iso_lifecycle.specs.declared.done.What.TheVariants as W
use Rattle.iso_lifecycle.specs.declared.entry.Entry.{Entry}
use Rattle.iso_lifecycle.specs.declared.entry.Entry.TheVariants.{Empty, Tested, Opened, Closed}
use Rattle.iso_lifecycle.specs.declared.kind.BodyKind.{BodyKind}
use Rattle.iso_lifecycle.specs.declared.kind.BodyKind.TheVariants.{BeforeAll, Test}

-- whether the `before_all` of a class was put
abbrev pub has_opened : Entry → Bool
has_opened Empty = false
has_opened (Tested o) = false
has_opened (Opened o) = true
has_opened (Closed o c) = true

-- whether a test, or the `after_all` of a class, was put
abbrev pub has_ended : Entry → Bool
has_ended Empty = false
has_ended (Tested o) = true
has_ended (Opened o) = false
has_ended (Closed o c) = true

-- the entry of an opened class with what its `after_all` came to
abbrev pub entry_closed : Closings.Closed → Entry → Entry
entry_closed c Empty = Empty
entry_closed c (Tested o) = Tested o
entry_closed c (Opened o) = Closed o c
entry_closed c (Closed o d) = Closed o d

-- the entry with what a body came to
abbrev pub entry_with : What → Entry → Entry
entry_with (W.Tested o) e = Tested o
entry_with (W.Opened o) e = Opened o
entry_with (W.Closed c) e = entry_closed c e

-- whether a node has a body of this kind
abbrev pub has_body : BodyKind → Subject → Bool
has_body kind s = is_kind_of kind (row_at (tree_of s.plan) s.node).kind

-- a test, with its outcome
pub record IsTested (s : Subject) (o : Outcome) : Type 0 where
  pub test : has_body Test s ≡ true
  pub outcome : o ≡ outcome_of s

-- a class, with what its `before_all` came to
pub record IsOpened (s : Subject) (o : Openings.Opened) : Type 0 where
  pub class : has_body BeforeAll s ≡ true
  pub opening : IsOpening s o

-- and what its `after_all` came to
pub record IsClosed (s : Subject) (o : Openings.Opened) (c : Closings.Closed) : Type 0 where
  pub opened : IsOpened s o
  pub closing : IsClosing s c

-- what is kept of a node is what the definitions say of it
abbrev pub IsKept : Subject → Entry → Type 0
IsKept s Empty = Unit {0}
IsKept s (Tested o) = IsTested s o
IsKept s (Opened o) = IsOpened s o
IsKept s (Closed o c) = IsClosed s o c

abbrev pub entry_at : List Entry → ℕ → Entry
entry_at es n = slice_index_or es n Empty

-- an entry for each node of a plan, which keeps what the definitions say of the node
pub record AreKept (plan : Planned) (start : Start) (es : List Entry) : Type 0 where
  pub fits : length es ≡ length plan.rows
  pub kept : (n : ℕ) → IsKept (subject plan start n) (entry_at es n)

-- what contracts see of them
abbrev pub seen : Planned → Start → List Entry → ResultsView
seen plan start es =
    record { plan = plan; start = start; opened = map has_opened es; ended = map has_ended es }
