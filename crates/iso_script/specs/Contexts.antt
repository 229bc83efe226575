-- What stands before a place of a script.
--
-- open brace: The innermost of the braces that are opened and not closed among the pieces before a
-- position (`IsOpenAt`, `open_after`).
use Rattle.std.specs.Prelude.{ℕ, ◌-◌, List, [], ◌∷◌, ◌++◌, ◌≡◌, Option, None, length, fold, take}
use Rattle.std.specs.Option.{option_to_list}
use Rattle.iso_script_lexer.specs.LexicalGrammar.{ArePiecesOf}
use Rattle.iso_script_lexer.specs.Piece.{Piece, symbol_at, tail}
use Rattle.iso_script_lexer.specs.Tokens.{front}
use Rattle.iso_script_lexer.specs.declared.symbol.Symbol.TheVariants.{OpenBrace, CloseBrace}
use Rattle.iso_script_lexer.specs.declared.token.Position.{Position}
use Rattle.iso_script_lexer.specs.declared.token.Token.{Token}
use Rattle.iso_script_statements.specs.declared.fault.ScriptFault.{ScriptFault}

-- where the braces stand that are open after a piece more, the innermost last
abbrev pub after_piece : List Position → Piece → List Position
after_piece braces (symbol_at p OpenBrace) = braces ++ p ∷ []
after_piece braces (symbol_at p CloseBrace) = take (length braces - 1) braces
after_piece braces _ = braces

-- where the braces stand that are open after these pieces, the innermost last
abbrev pub open_after : List Piece → List Position
open_after passed = fold after_piece [] passed

-- where a fault lies
abbrev pub place_of : ScriptFault → Position
place_of fault = record { line = fault.line; column = fault.column }

-- the pieces begin at this position, or there is none
abbrev pub BeginAt : Position → List Piece → Type 0
BeginAt at ps = (t : Token) × (ps ≡ front at t (tail ps))

-- this is the last, if there is one
pub record IsLast (braces : List Position) (brace : Option Position) : Type 0 where
  pub outer : List Position
  pub last : braces ≡ outer ++ option_to_list brace
  pub none : brace ≡ None → braces ≡ []

-- the innermost brace that is open at this position of a script, if one is
pub record IsOpenAt (bytes : List ℕ) (at : Position) (brace : Option Position) : Type 0 where
  pub passed : List Piece
  pub rest : List Piece
  pub pieces : ArePiecesOf bytes (passed ++ rest)
  pub here : BeginAt at rest
  pub innermost : IsLast (open_after passed) brace
