-- What is on offer: a node that waits for a key which doesn't exclude it.
use Rattle.std.specs.Prelude.{◌≡◌, ◌≤◌, ℕ, ◌+◌, ◌*◌, List, Bool, false, ◌&&◌, ◌||◌, not, cond}
use Rattle.iso_desk.specs.Marking.{has}
use Rattle.iso_desk.specs.Places.{StandsIn}
use Rattle.iso_desk.specs.declared.line.KeyLine.{KeyLine}
use Rattle.iso_desk.specs.declared.line.Line.TheVariants.{Key}
use Rattle.iso_desk.specs.declared.line.Party.{Party}
use Rattle.iso_desk.specs.declared.marks.Marks.{Marks}
use Rattle.iso_desk.specs.declared.place.Place.{Place}

-- a line's key excludes who waits in it: somebody writes the key, or holds it where it is to be
-- written
abbrev pub excludes : Marks → Marks → KeyLine → Bool
excludes held written l = cond l.writes (has held l.key) (has written l.key)

-- somebody stands in a line, and its key doesn't exclude them
pub record IsOnOffer (places : List Place) (held written : Marks) (l : KeyLine) : Type 0 where
  pub waits : (n : ℕ) × StandsIn places (Key l) n
  pub free : excludes held written l ≡ false

-- no line of a party is on offer
abbrev pub NothingOffered : List Place → Marks → Marks → Party → Type 0
NothingOffered places held written p =
    (l : KeyLine) → l.party ≡ p → ¬ IsOnOffer places held written l

-- a line of a party is on offer at a key, and none at a lower one
pub record IsLowestOffer (places : List Place) (held written : Marks) (p : Party)
    (k : ℕ) : Type 0 where
  pub line : KeyLine
  pub of_party : line.party ≡ p
  pub of_key : line.key ≡ k
  pub offered : IsOnOffer places held written line
  pub lowest : (l : KeyLine) → l.party ≡ p → IsOnOffer places held written l → k ≤ l.key

-- the same, by the lines' marks: those of the party by its number are read and written there
abbrev pub offers_key : Marks → ℕ → Marks → Marks → ℕ → Bool
offers_key filled p held written k = (has filled (576 * p + k) && not (has written k))
    || (has filled (576 * p + 256 + k) && not (has held k))
