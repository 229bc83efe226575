-- Places in the bytes of a script.
use Rattle.std.specs.Prelude.{◌≡◌, ℕ, zero, suc, ◌+◌, ◌-◌, List, [], ◌∷◌, ◌==◌, cond, drop, not, take}
use Rattle.std.specs.List.{prefix_len}
use Rattle.std.specs.Str.Lines.{strip_carriage_return}
use Rattle.iso_hints.specs.Places.{PlaceView, place_at, view_of}
use Rattle.iso_hints.specs.declared.place.Place.{Place}
use Rattle.iso_script_statements.specs.declared.fault.ScriptFault.{ScriptFault}
use Rattle.iso_explain.specs.declared.spot.Spot.{Spot}

-- how many bytes this number of lines has from here on, with their line feeds: all, where there are
-- fewer lines
abbrev pub lines_bytes : ℕ → List ℕ → ℕ
lines_bytes zero bytes = 0
lines_bytes (suc n) [] = 0
lines_bytes (suc n) (b ∷ bs) = cond (b == 10) (lines_bytes n bs) (lines_bytes (suc n) bs) + 1

-- how many bytes stand before the line of this number, which counts from 1
abbrev pub start_of : List ℕ → ℕ → ℕ
start_of bytes line = lines_bytes (line - 1) bytes

-- what stands before the first line feed, without the CR at its end
abbrev pub first_line : List ℕ → List ℕ
first_line rest = strip_carriage_return (take (prefix_len (λ b. not (b == 10)) rest) rest)

-- the line of this number, without its line end
abbrev pub line_of : List ℕ → ℕ → List ℕ
line_of bytes line = first_line (drop (start_of bytes line) bytes)

-- how many bytes stand before a place
abbrev pub offset_of : List ℕ → ℕ → ℕ → ℕ
offset_of bytes line column = start_of bytes line + (column - 1)

-- the place of a fault, with what stands before it
abbrev pub place_at_fault : List ℕ → ScriptFault → PlaceView
place_at_fault bytes fault = place_at bytes (offset_of bytes fault.line fault.column)

-- the code's place is that of a fault of these bytes
abbrev pub IsPlaceOf : Place → List ℕ → ScriptFault → Type 0
IsPlaceOf place bytes fault = view_of place ≡ place_at_fault bytes fault

-- the code's spot is that of a fault of these bytes: it has its line and its place
pub record IsSpotOf (spot : Spot) (bytes : List ℕ) (fault : ScriptFault) : Type 0 where
  pub line : spot.line.now ≡ line_of bytes fault.line
  pub place : IsPlaceOf spot.place bytes fault
