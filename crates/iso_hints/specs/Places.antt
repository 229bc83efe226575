-- Places in a script, as the patterns see them.
use Rattle.std.specs.Prelude.{◌≡◌, ℕ, List, Bool, ◌==◌, Option, Some, None, cond, drop, take}
use Rattle.std.specs.List.{list_any, prefix_len}
use Rattle.iso_hints.specs.Bytes.{is_blank}
use Rattle.iso_hints.specs.Scans.{scan_of}
use Rattle.iso_hints.specs.Tokens.{is_name}
use Rattle.iso_hints.specs.declared.place.Place.{Place}
use Rattle.iso_hints.specs.declared.scan.Seen.{Seen}

-- bytes without the blanks at their beginning
abbrev pub untrimmed : List ℕ → List ℕ
untrimmed bytes = drop (prefix_len is_blank bytes) bytes

-- a place, as the patterns see it
pub record PlaceView : Type 0 where
  -- what stands before it, without the blanks and comments at its end
  pub before : List ℕ
  -- of this the statement or head that is begun: what stands behind the last `;`, `{` or `}`
  pub statement : List ℕ
  -- whether a line ends between that and the place
  pub leads : Bool
  -- what stands from the place on
  pub rest : List ℕ

-- the place between two parts of a text, of whose first this is known
abbrev pub place_seen : Seen → List ℕ → List ℕ → PlaceView
place_seen seen front rest =
    record {
      before = take seen.end front;
      statement = drop seen.start (take seen.end front);
      leads = list_any (λ b. b == 10) (drop seen.end front);
      rest = rest;
    }

abbrev pub place_between : List ℕ → List ℕ → PlaceView
place_between front rest = place_seen (scan_of front) front rest

-- the place behind `bytes` bytes of a text
abbrev pub place_at : List ℕ → ℕ → PlaceView
place_at text bytes = place_between (take bytes text) (drop bytes text)

-- a statement, where it is one name so far
abbrev pub name_of : List ℕ → Option (List ℕ)
name_of statement = cond (is_name statement) (Some statement) None

-- the code's place is this one
pub record IsPlace (place : Place) (view : PlaceView) : Type 0 where
  pub before : place.before.now ≡ view.before
  pub statement : place.statement.now ≡ view.statement
  pub leads : place.leads ≡ view.leads
  pub rest : place.rest.now ≡ view.rest

-- what the code's place is
abbrev pub view_of : Place → PlaceView
view_of place =
    record {
      before = place.before.now;
      statement = place.statement.now;
      leads = place.leads;
      rest = place.rest.now;
    }
