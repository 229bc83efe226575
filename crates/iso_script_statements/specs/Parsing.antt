-- What the parser answers.
--
-- parses: What is answered is read, and what can be read is answered unless memory runs out
-- (`Parses`).
use Rattle.std.specs.Prelude.{List, Result, MatchResult}
use Rattle.iso_script_lexer.specs.Piece.{Piece}
use Rattle.iso_script_statements.specs.Faults.{IsMemory, ScriptError}

-- Nothing is read of these pieces, or memory ran out. `Is x ps qs` says that ps are the pieces of
-- x, and then qs.
abbrev pub IsUnread : {A : Type 0} → (A → List Piece → List Piece → Type 0) → List Piece
    → ScriptError → Type 0
IsUnread {A} Is ps e = (x : A) (rest : List Piece) → Is x ps rest → IsMemory e

-- What is answered is read of the pieces, up to those that are left; and what can be read is
-- answered, unless memory runs out.
abbrev pub Parses : {X A : Type 0} → (X → A) → (A → List Piece → List Piece → Type 0)
    → Result X ScriptError
    → List Piece → List Piece → Type 0
Parses view Is result old new = MatchResult result (λ x. Is (view x) old new) (IsUnread Is old)
