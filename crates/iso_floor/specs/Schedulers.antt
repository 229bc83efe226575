-- What contracts see of a scheduler, and what its steps do to the table.
--
-- scheduler: What is kept of a run beside its book (`SchedulerView`): its table, after a node was
-- put or taken next (`put`, `next_taken`), the line in which a node waits (`waiting_line`), which
-- node a worker attempts or shuts next, and that there is none (`IsNextNode`, `HasNone`); who has
-- nothing to wake for (`HasNothingIn`); how many nodes are loose (`loose_in`); that each node in a
-- line of a key takes that key, which is a lead, with the line's access (`Takes`, `WaitRightly`);
-- which nodes have the place of one that was entered (`is_entered`), and that a step gives that to
-- none, or to one (`KeepsPlaces`, `IsMoved`); who has opened a class up (`owner_of`), and that each
-- node in a line is the party's whose line it is (`IsOwned`, `BelongsTo`, `StandRightly`,
-- `KeepsStands`), so that a worker may attempt it (`MayTry`); that a step makes no node Closed
-- (`ClosesNone`), that each CONCURRENT child of an open class was posted (`IsPosted`, `ArePosted`),
-- and that a node comes later (`ComesLater`); that the SAME_THREAD children of open classes come one
-- after another (`ComeInTurn`), so that one that is Closed comes after one that isn't over
-- (`ArePreceded`); that some child of an open class isn't over (`HaveLeft`). No public clause cites
-- it.
-- Also in: `Nexts`, `Parties`, `Postings`, `Remainders`, `Successions`.
use Rattle.std.specs.Prelude.{◌≡◌, ◌≢◌, ◌<◌, ◌==◌, ℕ, List, Option, None, Some, Bool, true, false, cond, is_some, length, not, ◌+◌, ◌-◌, slice_index_or, slice_set}
use Rattle.iso_desk.specs.Crews.{HasNothing}
use Rattle.iso_desk.specs.Places.{StandsIn, TableView, line_in, moved, place_of}
use Rattle.iso_desk.specs.declared.crew.Member.{Member}
use Rattle.iso_desk.specs.declared.line.KeyLine.{KeyLine}
use Rattle.iso_desk.specs.declared.line.Line.{Line}
use Rattle.iso_desk.specs.declared.line.Line.TheVariants.{Key}
use Rattle.iso_desk.specs.declared.line.Party.{Party}
use Rattle.iso_desk.specs.declared.line.Party.TheVariants.{Everyone, Worker}
use Rattle.iso_desk.specs.declared.place.Place.{Place}
use Rattle.iso_desk.specs.declared.place.Place.TheVariants.{Closed, Loose, InLine, With, Open, Over}
use Rattle.iso_floor.specs.KeyMarks.{KeysView}
use Rattle.iso_floor.specs.Parties.{StandRightly}
use Rattle.iso_model.specs.declared.access.Access.{Access}
use Rattle.iso_model.specs.declared.access.Access.TheVariants.{Read, Write}
use Rattle.iso_model.specs.declared.script.Mode.{Mode}
use Rattle.iso_model.specs.declared.script.Mode.TheVariants.{Concurrent, SameThread}
use Rattle.iso_plan.specs.HeldNodes.{count, takes_in}
use Rattle.iso_plan.specs.KeyGroups.{lead_locks}
use Rattle.iso_plan.specs.Locks.{is_write}
use Rattle.iso_plan.specs.Planned.{Planned}
use Rattle.iso_plan.specs.Tree.{Row}
use Rattle.iso_plan.specs.declared.lock.Lock.{Lock}

-- the table, what is kept of each worker, which keys held nodes take, how often nodes were posted,
-- by node the owner of a class that was opened up, how many of its children were looked at for the
-- next that its owner alone may enter, and how many aren't over; and whether a node was entered
-- while it stood in a line
pub record SchedulerView : Type 0 where
  pub table : TableView
  pub members : List Member
  pub keys : KeysView
  pub rounds : ℕ
  pub owners : List (Option ℕ)
  pub passed : List ℕ
  pub left : List ℕ
  pub bypassed : Bool

-- a scheduler is of `nodes` nodes and `workers` workers
pub record IsFor (nodes workers : ℕ) (s : SchedulerView) : Type 0 where
  pub nodes_are : length s.table.places ≡ nodes
  pub workers_are : s.table.workers ≡ workers

-- whether a place is a loose node's
abbrev pub is_loose : Place → Bool
is_loose Loose = true
is_loose Closed = false
is_loose (InLine s) = false
is_loose (With w) = false
is_loose Open = false
is_loose Over = false

-- how many nodes are loose
abbrev pub loose_in : List Place → ℕ
loose_in places = count (λ n. is_loose (place_of places n)) (length places)

-- whether a place is one with a worker
abbrev pub is_with : ℕ → Place → Bool
is_with v Closed = false
is_with v Loose = false
is_with v (InLine s) = false
is_with v (With w) = w == v
is_with v Open = false
is_with v Over = false

-- how many nodes are with a worker
abbrev pub with_in : List Place → ℕ → ℕ
with_in places v = count (λ n. is_with v (place_of places n)) (length places)

-- how many nodes are with each worker, where one node leaves this place, and where one gets it
abbrev pub without : Place → List ℕ → List ℕ
without Closed busy = busy
without Loose busy = busy
without (InLine s) busy = busy
without (With w) busy = slice_set busy w (slice_index_or busy w 0 - 1)
without Open busy = busy
without Over busy = busy

abbrev pub besides : Place → List ℕ → List ℕ
besides Closed busy = busy
besides Loose busy = busy
besides (InLine s) busy = busy
besides (With w) busy = slice_set busy w (slice_index_or busy w 0 + 1)
besides Open busy = busy
besides Over busy = busy

-- a node that stands in no line gets a place in none, and one that stands in a line keeps it
abbrev pub put : ℕ → Place → TableView → TableView
put n p t = cond (is_some (line_in (place_of t.places n))) t (moved n p t)

-- the node that is taken next leaves its line for the hand of who takes it, if there is one
abbrev pub next_taken : Option ℕ → TableView → TableView
next_taken None t = t
next_taken (Some n) t = moved n Loose t

-- for whom a node is that waits: a CONCURRENT one for everyone, another one for its class's owner
abbrev pub party_for : Mode → ℕ → Party
party_for Concurrent w = Everyone
party_for SameThread w = Worker w

-- the line in which a node of a mode waits for the key of a lock
abbrev pub waiting_line : Mode → ℕ → Lock → Line
waiting_line m w l = Key (record { party = party_for m w; key = l.key; writes = is_write l })

-- a node of the table stands in no line, so that it can be put in one
pub record IsFree (places : List Place) (n : ℕ) : Type 0 where
  pub within : n < length places
  pub free : line_in (place_of places n) ≡ None

-- a worker that has seen this has nothing to wake for, where the run is over or isn't
abbrev pub HasNothingIn : SchedulerView → Bool → ℕ → Option ℕ → Type 0
HasNothingIn s is_over w seen = HasNothing s.table.places s.keys.held s.keys.written is_over
    (not (loose_in s.table.places == 0)) s.rounds w seen

-- the access with which the nodes in a line take its key: READ_WRITE in a line of writers, else
-- READ
abbrev pub access_in : KeyLine → Access
access_in l = cond l.writes Write Read

-- a node takes the key of a line with the line's access, and the key is a lead
pub record Takes (tree : List Row) (n : ℕ) (l : KeyLine) : Type 0 where
  pub known : l.key < 256
  pub taken : takes_in (access_in l) l.key (lead_locks tree n) ≡ true

-- each node that stands in a line of a key takes that key, which is a lead, with the line's access
abbrev pub WaitRightly : List Row → List Place → Type 0
WaitRightly tree places = (n : ℕ) (l : KeyLine) → StandsIn places (Key l) n → Takes tree n l

-- a step leaves a scheduler for as many nodes and workers
abbrev pub KeepsSizes : (old new : SchedulerView) → Type 0
KeepsSizes old new = (nodes workers : ℕ) → IsFor nodes workers old → IsFor nodes workers new

-- a step puts no node in a line of a key: who stands in one stood there
abbrev pub KeepsLines : (old new : SchedulerView) → Type 0
KeepsLines old new = (n : ℕ) (l : KeyLine) → StandsIn new.table.places (Key l) n
    → StandsIn old.table.places (Key l) n

-- a step puts no node in a line that isn't its party's
abbrev pub KeepsStands : (old new : SchedulerView) → Type 0
KeepsStands old new = (p : Planned) → StandRightly p old.owners old.table.places
    → StandRightly p new.owners new.table.places

-- whether a place is one of a node that was entered: with a worker, open or over
abbrev pub is_entered : Place → Bool
is_entered Closed = false
is_entered Loose = false
is_entered (InLine s) = false
is_entered (With w) = true
is_entered Open = true
is_entered Over = true

-- a step gives no node the place of one that was entered: who has one had it before
abbrev pub KeepsPlaces : (old new : SchedulerView) → Type 0
KeepsPlaces old new = (n : ℕ) → is_entered (place_of new.table.places n) ≡ true
    → place_of new.table.places n ≡ place_of old.table.places n

-- a step gives one node alone the place of one that was entered, and this place
pub record IsMoved (n : ℕ) (p : Place) (old new : List Place) : Type 0 where
  pub here : is_entered (place_of new n) ≡ true → place_of new n ≡ p
  pub others : (m : ℕ) → m ≢ n → is_entered (place_of new m) ≡ true
      → place_of new m ≡ place_of old m
