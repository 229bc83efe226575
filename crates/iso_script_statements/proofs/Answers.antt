-- What another call answered.
use Rattle.std.proofs.Common.{◌≡◌, List, Result, Ok, Err, MatchResult, subst, sym}
use Rattle.iso_script_lexer.specs.Piece.{Piece}
use Rattle.iso_script_statements.specs.Faults.{IsMemory, ScriptError}
use Rattle.iso_script_statements.specs.Parsing.{Parses}

-- what was read of the pieces that were left is read of all of them
pub parses_from : {X A : Type 0} (view : X → A) (Was Is : A → List Piece → List Piece → Type 0) (result : Result X ScriptError) (old mid new : List Piece)
    → ((x : A) (rest : List Piece) → Was x mid rest → Is x old rest) → ((x : A) (rest : List Piece) → Is x old rest → Was x mid rest)
    → Parses view Was result mid new → Parses view Is result old new
parses_from view Was Is (Ok x) old mid new whole left h = whole (view x) new h
parses_from view Was Is (Err e) old mid new whole left h = λ x rest k. h x rest (left x rest k)

-- what was read is answered as a value that is built of it, unless memory runs out
pub parses_built : {X A : Type 0} (view : X → A) (Is : A → List Piece → List Piece → Type 0) (a : A) (result : Result X ScriptError) (old new : List Piece)
    → Is a old new → MatchResult result (λ x. view x ≡ a) IsMemory → Parses view Is result old new
parses_built view Is a (Ok x) old new read built = subst (λ b. Is b old new) (sym built) read
parses_built view Is a (Err e) old new read memory = λ x rest k. memory
