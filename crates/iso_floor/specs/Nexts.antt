-- What a worker attempts or shuts next, of the nodes that stand in lines.
use Rattle.std.specs.Prelude.{◌≡◌, ◌≤◌, ℕ, List, Option, None, Some}
use Rattle.iso_desk.specs.Offers.{IsOnOffer, NothingOffered}
use Rattle.iso_desk.specs.Places.{IsEmpty, IsFirst, StandsIn, place_of, since_in}
use Rattle.iso_desk.specs.declared.line.KeyLine.{KeyLine}
use Rattle.iso_desk.specs.declared.line.Line.{Line}
use Rattle.iso_desk.specs.declared.line.Line.TheVariants.{Key, Own}
use Rattle.iso_desk.specs.declared.line.Party.{Party}
use Rattle.iso_desk.specs.declared.line.Party.TheVariants.{Everyone, Worker}
use Rattle.iso_desk.specs.declared.place.Place.{Place}
use Rattle.iso_floor.specs.KeyMarks.{KeysView}

-- nothing that stands in a line is for a worker now: nobody stands in its own, and nothing is on
-- offer to it or to everyone
pub record HasNone (places : List Place) (keys : KeysView) (w : ℕ) : Type 0 where
  pub own : IsEmpty places (Own w)
  pub alone : NothingOffered places keys.held keys.written (Worker w)
  pub others : NothingOffered places keys.held keys.written Everyone

-- no node of one line came before one that is first in another
abbrev pub ComesFirst : List Place → KeyLine → KeyLine → Type 0
ComesFirst places l m = (i j : ℕ) → IsFirst places (Key l) i → StandsIn places (Key m) j
    → since_in (place_of places i) ≤ since_in (place_of places j)

-- the line of a party that is taken next: it is on offer at the lowest key, and of the lines that
-- are on offer there its first came first
pub record IsNextOf (places : List Place) (keys : KeysView) (p : Party) (l : KeyLine) : Type 0 where
  pub of_party : l.party ≡ p
  pub offered : IsOnOffer places keys.held keys.written l
  pub lowest : (m : KeyLine) → m.party ≡ p → IsOnOffer places keys.held keys.written m
      → l.key ≤ m.key
  pub earliest : (m : KeyLine) → m.party ≡ p → m.key ≡ l.key
      → IsOnOffer places keys.held keys.written m → ComesFirst places l m

-- the line that a worker takes the next node from: its own; where nobody stands there, one that is
-- on offer to it alone; where none is, one that is on offer to everyone
abbrev pub IsNextLine : List Place → KeysView → ℕ → Line → Type 0
IsNextLine places keys w (Own v) = (v ≡ w) × ((n : ℕ) × StandsIn places (Own v) n)
IsNextLine places keys w (Key l) =
    IsEmpty places (Own w) × ((v : ℕ) → l.party ≡ Worker v → v ≡ w)
    × (l.party ≡ Everyone → NothingOffered places keys.held keys.written (Worker w))
    × IsNextOf places keys l.party l

-- the node that a worker attempts or shuts next: the first of that line
pub record IsNextNode (places : List Place) (keys : KeysView) (w n : ℕ) : Type 0 where
  pub line : Line
  pub next : IsNextLine places keys w line
  pub first : IsFirst places line n

-- a number comes before another one or is the same, or there is no other
abbrev pub Precedes : Option ℕ → Option ℕ → Type 0
Precedes None o = ⊥
Precedes (Some s) None = Unit {0}
Precedes (Some s) (Some t) = s ≤ t

-- the number by which the first of a line stands there, if anybody does
abbrev pub IsSince : List Place → KeyLine → Option ℕ → Type 0
IsSince places l None = IsEmpty places (Key l)
IsSince places l (Some s) = (n : ℕ) × IsFirst places (Key l) n × (since_in (place_of places n) ≡ s)
