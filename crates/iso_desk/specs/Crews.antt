-- Who waits, who has nothing to wake for, and whom a call marks.
--
-- who has something to wake for: A worker with what it has seen has nothing (`HasNothing`); one
-- that waits, wasn't called and has something (`IsToCall`), and that none below a number has
-- (`HaveNothing`); how many wait and weren't called (`awaiting_in`); what is kept of workers after
-- a call (`idle_crew`, `waiting`, `looking`, `called`).
use Rattle.std.specs.Prelude.{◌≡◌, ◌<◌, ℕ, List, replicate, Option, None, Some, Bool, false, true, ◌&&◌, not, cond, slice_index_or, slice_set}
use Rattle.std.specs.List.{sum_by}
use Rattle.iso_desk.specs.Offers.{NothingOffered}
use Rattle.iso_desk.specs.Places.{IsEmpty}
use Rattle.iso_desk.specs.declared.crew.Member.{Member}
use Rattle.iso_desk.specs.declared.line.Line.TheVariants.{Own}
use Rattle.iso_desk.specs.declared.line.Party.TheVariants.{Everyone, Worker}
use Rattle.iso_desk.specs.declared.marks.Marks.{Marks}
use Rattle.iso_desk.specs.declared.place.Place.{Place}

-- A worker has nothing to wake for: the run goes on, its own line is empty, and nothing of its own
-- or of everyone's is on offer. Where a node is loose, it has looked since the last post.
pub record HasNothing (places : List Place) (held written : Marks) (is_over is_loose : Bool)
    (rounds w : ℕ) (seen : Option ℕ) : Type 0 where
  pub goes_on : is_over ≡ false
  pub own : IsEmpty places (Own w)
  pub alone : NothingOffered places held written (Worker w)
  pub others : NothingOffered places held written Everyone
  pub looked : is_loose ≡ true → seen ≡ Some rounds

-- a worker of whom nothing is kept
abbrev pub fresh : Member
fresh = record { waits = false; called = false; seen = None }

-- workers of whom nothing is kept
abbrev pub idle_crew : ℕ → List Member
idle_crew workers = replicate workers fresh

-- what is kept of a worker
abbrev pub member_of : List Member → ℕ → Member
member_of ms w = slice_index_or ms w fresh

-- a worker waits and wasn't called since
abbrev pub awaits : Member → Bool
awaits m = m.waits && not m.called

-- how many workers wait and weren't called since
abbrev pub awaiting_in : List Member → ℕ
awaiting_in ms = sum_by (λ m. cond (awaits m) 1 0) ms

-- a worker begins to wait with what it has seen
abbrev pub waiting : ℕ → Option ℕ → List Member → List Member
waiting w seen ms = slice_set ms w (record { waits = true; called = false; seen = seen })

-- a worker waits no more, and what it has seen is past
abbrev pub looking : ℕ → List Member → List Member
looking w ms = slice_set ms w fresh

-- a worker is called, if any is
abbrev pub called : Option ℕ → List Member → List Member
called None ms = ms
called (Some w) ms = slice_set ms w (record (member_of ms w) { called = true })

-- a worker of whom this is kept is to be called: it waits, wasn't called since, and has something
-- to wake for
pub record IsToCall (places : List Place) (held written : Marks) (is_over is_loose : Bool)
    (rounds w : ℕ) (m : Member) : Type 0 where
  pub awaiting : awaits m ≡ true
  pub something : ¬ HasNothing places held written is_over is_loose rounds w m.seen

-- each worker below a number that waits and wasn't called since has nothing to wake for
abbrev pub HaveNothing : List Place → Marks → Marks → Bool → Bool → ℕ → List Member → ℕ → Type 0
HaveNothing places held written is_over is_loose rounds ms n =
    (v : ℕ) → v < n → awaits (member_of ms v) ≡ true
    → HasNothing places held written is_over is_loose rounds v (member_of ms v).seen
