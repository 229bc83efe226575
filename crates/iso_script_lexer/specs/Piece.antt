-- The pieces of a script: its tokens, each with the position of its first byte.
--
-- pieces of a script: Its tokens in order, each with the position of its first byte; what is no
-- token is a piece too, with its line (`Piece`).
use Rattle.std.specs.Prelude.{ℕ, List, [], ◌∷◌}
use Rattle.iso_script_lexer.specs.declared.symbol.Symbol.{Symbol}
use Rattle.iso_script_lexer.specs.declared.token.Position.{Position}
use Rattle.iso_script_lexer.specs.declared.token.TokenFault.{TokenFault}
use Rattle.iso_script_lexer.specs.declared.word.Word.{Word}

pub data Piece : Type 0 where
  name_at : (position : Position) → List ℕ → Piece
  number_at : (position : Position) → ℕ → Piece
  -- the text that is meant, without quotes and escapes
  text_at : (position : Position) → List ℕ → Piece
  word_at : (position : Position) → Word → Piece
  symbol_at : (position : Position) → Symbol → Piece
  -- what is no token, by its line, and what is wrong with it
  bad_at : (row : ℕ) → TokenFault → Piece

-- the pieces after the first
abbrev pub tail : List Piece → List Piece
tail [] = []
tail (p ∷ ps) = ps
