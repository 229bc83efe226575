-- The places of nodes, and what the reader answers of what has places.
--
-- place of a node: Where its name begins, and the lines of its blocks' opening braces: of a test's
-- body (`test_place`), and of each lifecycle block of a class that is written (`class_place`,
-- `line_at`).
--
-- answer with places: What is answered is there, with places that are added to those that are kept,
-- and what is there is answered unless memory runs out (`Finds`; of pieces `ParsesPlaced`). Where
-- none are kept, none are added (`kept`, `with_places`).
use Rattle.std.specs.Prelude.{ℕ, List, ◌++◌, ◌≡◌, Option, Some, None, nat_eq, if◌then◌else◌, Result, MatchResult}
use Rattle.iso_model.specs.declared.place.Lifecycle.TheVariants.{BeforeAll, AfterAll, BeforeEach, AfterEach}
use Rattle.iso_script.specs.Blocks.{Block, Blocks}
use Rattle.iso_script.specs.declared.place.BlockLine.{BlockLine}
use Rattle.iso_script.specs.declared.place.BlockLines.TheVariants.{Test, Class}
use Rattle.iso_script.specs.declared.place.NodePlace.{NodePlace}
use Rattle.iso_script.specs.declared.place.Places as D
use Rattle.iso_script_lexer.specs.Piece.{Piece}
use Rattle.iso_script_lexer.specs.declared.token.Position.{Position}
use Rattle.iso_script_statements.specs.Faults.{IsMemory, ScriptError}

-- the place of a test whose name stands here, and whose body begins on this line
abbrev pub test_place : (name : Position) → (line : ℕ) → NodePlace
test_place name line = record { name = name; blocks = Test line }

-- the line of a lifecycle block, where it is written: lines count from 1, so that 0 is none
abbrev pub line_if : Option Block → BlockLine
line_if None = record { number = 0 }
line_if (Some block) = record { number = block.line }

-- the line of a block, if there is one
abbrev pub line_at : BlockLine → Option ℕ
line_at l = if nat_eq l.number 0 then None else Some l.number

-- the place of a class whose name stands here, with these lifecycle blocks
abbrev pub class_place : (name : Position) → Blocks → NodePlace
class_place name blocks =
    record {
      name = name;
      blocks = Class (record {
        before_all = line_if (blocks BeforeAll);
        after_all = line_if (blocks AfterAll);
        before_each = line_if (blocks BeforeEach);
        after_each = line_if (blocks AfterEach);
      });
    }

-- the places that the reader keeps, if it keeps any
abbrev pub kept : D.Places → Option (List NodePlace)
kept places = if places.are_kept then Some places.list.items else None

-- the places that are kept, and then these
unfoldable pub with_places : Option (List NodePlace) → List NodePlace → Option (List NodePlace)
with_places None more = None
with_places (Some places) more = Some (places ++ more)

-- There is nothing of this, or memory ran out.
abbrev pub IsUnfound : {A : Type 0} → (A → List NodePlace → Type 0) → ScriptError → Type 0
IsUnfound {A} Is e = (a : A) (places : List NodePlace) → Is a places → IsMemory e

-- What is answered is this, at some places, and these are added to those that are kept; and where
-- there is such a thing, it is answered, unless memory runs out.
abbrev pub Finds : {X A : Type 0} → (X → A) → (A → List NodePlace → Type 0) → Result X ScriptError
    → (old new : Option (List NodePlace)) → Type 0
Finds view Is result old new =
    MatchResult result
    (λ x. (places : List NodePlace) × Is (view x) places × (new ≡ with_places old places))
    (IsUnfound Is)

-- The same of what is read of pieces: `Is x places ps qs` says that ps are the pieces of x, and
-- then qs, and that x has these places.
abbrev pub ParsesPlaced : {X A : Type 0} → (X → A)
    → (A → List NodePlace → List Piece → List Piece → Type 0)
    → Result X ScriptError → (ps qs : List Piece) → (old new : Option (List NodePlace)) → Type 0
ParsesPlaced view Is result ps qs old new =
    MatchResult result
    (λ x. (places : List NodePlace) × Is (view x) places ps qs × (new ≡ with_places old places))
    (λ e. (rest : List Piece) → IsUnfound (λ x places. Is x places ps rest) e)
