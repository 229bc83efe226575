-- The table: where each node stands. The lines are read off it.
--
-- places and lines: Where each node stands, and which numbers are given next (`TableView`); which
-- line a node stands in, and by what number (`StandsIn`, `since_in`); the first of a line
-- (`IsFirst`), and that nobody stands there (`IsEmpty`); a table after a call (`all_closed`,
-- `moved`, `lined_up`, `headed`).
-- Also in: `Lines`.
use Rattle.std.specs.Prelude.{◌≡◌, ◌≤◌, ℕ, ◌+◌, ◌-◌, ◌^◌, List, replicate, Option, None, Some, slice_index_or, slice_set}
use Rattle.iso_desk.specs.declared.line.Line.{Line}
use Rattle.iso_desk.specs.declared.place.Place.{Place}
use Rattle.iso_desk.specs.declared.place.Place.TheVariants.{Closed, Loose, InLine, With, Open, Over}

-- A table: its number of workers, where each node stands, and the numbers that are given next, to
-- who joins a line at its end, and, below `front`, at its front.
pub record TableView : Type 0 where
  pub workers : ℕ
  pub places : List Place
  pub clock : ℕ
  pub front : ℕ

-- where a node stands
abbrev pub place_of : List Place → ℕ → Place
place_of places n = slice_index_or places n Closed

-- the line of a node that has this place
abbrev pub line_in : Place → Option Line
line_in (InLine s) = Some s.line
line_in Closed = None
line_in Loose = None
line_in (With w) = None
line_in Open = None
line_in Over = None

-- the number of a node that has this place, by which it is ordered in its line
abbrev pub since_in : Place → ℕ
since_in (InLine s) = s.since
since_in Closed = 0
since_in Loose = 0
since_in (With w) = 0
since_in Open = 0
since_in Over = 0

-- a node is in a line
abbrev pub StandsIn : List Place → Line → ℕ → Type 0
StandsIn places l n = line_in (place_of places n) ≡ Some l

-- a node stands in a line, and none stands there before it
abbrev pub IsFirst : List Place → Line → ℕ → Type 0
IsFirst places l n = StandsIn places l n
    × ((m : ℕ) → StandsIn places l m → since_in (place_of places n) ≤ since_in (place_of places m))

-- nobody stands in a line
abbrev pub IsEmpty : List Place → Line → Type 0
IsEmpty places l = (n : ℕ) → ¬ StandsIn places l n

-- the table of `nodes` nodes, all closed
abbrev pub all_closed : ℕ → ℕ → TableView
all_closed nodes workers =
    record { workers = workers; places = replicate nodes Closed; clock = 2 ^ 63; front = 2 ^ 63 }

-- a node moves
abbrev pub moved : ℕ → Place → TableView → TableView
moved n p t = record t { places = slice_set t.places n p }

-- a node is put at the end of a line
abbrev pub lined_up : ℕ → Line → TableView → TableView
lined_up n l t =
    record t {
      places = slice_set t.places n (InLine (record { line = l; since = t.clock }));
      clock = t.clock + 1;
    }

-- a node is put at the front of a line
abbrev pub headed : ℕ → Line → TableView → TableView
headed n l t =
    record t {
      places = slice_set t.places n (InLine (record { line = l; since = t.front - 1 }));
      front = t.front - 1;
    }
