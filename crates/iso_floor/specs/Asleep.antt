-- What is left of a run where workers wait.
use Rattle.std.specs.Prelude.{◌≡◌, ◌≢◌, ◌<◌, ◌⊎◌, ℕ, None, Some, false, true}
use Rattle.iso_book.specs.Books.{is_complete, refusal_in, state_in, suite_in}
use Rattle.iso_desk.specs.Crews.{awaits, member_of}
use Rattle.iso_desk.specs.Places.{place_of}
use Rattle.iso_desk.specs.declared.line.Line.{Line}
use Rattle.iso_desk.specs.declared.line.Line.TheVariants.{Key, Own}
use Rattle.iso_desk.specs.declared.line.Party.{Party}
use Rattle.iso_desk.specs.declared.line.Party.TheVariants.{Everyone, Worker}
use Rattle.iso_desk.specs.declared.place.Place.{Place}
use Rattle.iso_desk.specs.declared.place.Place.TheVariants.{Closed, Loose, InLine, With, Open, Over}
use Rattle.iso_floor.specs.Desks.{DeskView}
use Rattle.iso_floor.specs.Parties.{owner_of, party_in}
use Rattle.iso_floor.specs.Postings.{ComesLater}
use Rattle.iso_floor.specs.Schedulers.{SchedulerView}
use Rattle.iso_progress.specs.Candidates.{NoneAtWork}
use Rattle.iso_standing.specs.declared.event.Event.TheVariants.{Enter, Shut}
use Rattle.iso_suites.specs.ScriptLanguage.{scripts}

-- a party is everyone, or one of the workers, who are `workers`
abbrev pub IsPartyOf : ℕ → Party → Type 0
IsPartyOf workers Everyone = Unit {0}
IsPartyOf workers (Worker w) = w < workers

-- a place names one of the workers, who are `workers`, where it names any: with whom a node is, or
-- whose line it stands in
abbrev pub NamesOneOf : ℕ → Place → Type 0
NamesOneOf workers Closed = Unit {0}
NamesOneOf workers Loose = Unit {0}
NamesOneOf workers (InLine s) = IsPartyOf workers (party_in s.line)
NamesOneOf workers (With w) = w < workers
NamesOneOf workers Open = Unit {0}
NamesOneOf workers Over = Unit {0}

-- each worker that a scheduler names is one of so many: in a node's place, or as the owner of a
-- class that was opened up
pub record AreWorkers (workers : ℕ) (s : SchedulerView) : Type 0 where
  pub places : (n : ℕ) → NamesOneOf workers (place_of s.table.places n)
  pub owners : (n w : ℕ) → owner_of s.owners n ≡ Some w → w < workers

-- a place of a class that a worker could shut and doesn't find in its own line: the class is in a
-- hand, in another line, with this worker, or open
abbrev pub IsElsewhere : ℕ → Place → Type 0
IsElsewhere w Closed = ⊥
IsElsewhere w Loose = Unit {0}
IsElsewhere w (InLine s) = s.line ≢ Own w
IsElsewhere w (With v) = v ≡ w
IsElsewhere w Open = Unit {0}
IsElsewhere w Over = ⊥

-- A worker could shut nothing that stands in its own line: each class that the book would let it
-- shut is elsewhere.
abbrev pub CanShutNone : DeskView → ℕ → Type 0
CanShutNone d w = (n : ℕ) → refusal_in d.book (Shut w n) ≡ None
    → IsElsewhere w (place_of d.scheduler.table.places n)

-- a line is one of a key
abbrev pub IsOfKey : Line → Type 0
IsOfKey (Key l) = Unit {0}
IsOfKey (Own w) = ⊥

-- a place in which no worker that waits would find a class: the class is in a hand, in a line of a
-- key, with a worker, or open
abbrev pub IsUnfound : Place → Type 0
IsUnfound Closed = ⊥
IsUnfound Loose = Unit {0}
IsUnfound (InLine s) = IsOfKey s.line
IsUnfound (With w) = Unit {0}
IsUnfound Open = Unit {0}
IsUnfound Over = ⊥

-- a worker could enter a node that is in a hand, or is Closed and comes later
pub record IsEnterLeft (d : DeskView) : Type 0 where
  pub worker : ℕ
  pub node : ℕ
  pub below : worker < d.book.workers
  pub taken : refusal_in d.book (Enter worker node) ≡ None
  pub place : (place_of d.scheduler.table.places node ≡ Loose)
      ⊎ ((place_of d.scheduler.table.places node ≡ Closed)
      × ComesLater d.book.plan d.scheduler.table.places node)

-- a worker could shut a class that is in a hand, in a line of a key, with a worker, or open
pub record IsShutLeft (d : DeskView) : Type 0 where
  pub worker : ℕ
  pub class : ℕ
  pub below : worker < d.book.workers
  pub taken : refusal_in d.book (Shut worker class) ≡ None
  pub place : IsUnfound (place_of d.scheduler.table.places class)

-- A run sleeps: every worker waits and wasn't called, and no worker has a body, while a node but the
-- root isn't finished and the run wasn't stopped.
pub record IsAsleep (d : DeskView) : Type 0 where
  pub manned : 0 < d.book.workers
  pub waits : (w : ℕ) → w < d.book.workers → awaits (member_of d.scheduler.members w) ≡ true
  pub idle : NoneAtWork scripts (suite_in d.book) d.book.workers (state_in d.book)
  pub running : d.book.stopped ≡ false
  pub unfinished : is_complete d.book ≡ false
