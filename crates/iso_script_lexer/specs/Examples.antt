-- The words of the lexer's examples. Of which pieces each text is, the source module `examples`
-- states and proves.
use Prim.Native.String.{String}
use Rattle.std.specs.Prelude.{ℕ, ◌+◌, List, [], ◌∷◌, codes, length, map}
use Rattle.iso_script_lexer.specs.LexicalGrammar.{ArePiecesOf}
use Rattle.iso_script_lexer.specs.Piece as P
use Rattle.iso_script_lexer.specs.Piece.{Piece, word_at, symbol_at, bad_at}
use Rattle.iso_script_lexer.specs.Spelling.{spelling}
use Rattle.iso_script_lexer.specs.declared.symbol.Symbol.{Symbol}
use Rattle.iso_script_lexer.specs.declared.token.Position.{Position}
use Rattle.iso_script_lexer.specs.declared.token.TokenFault.{TokenFault}
use Rattle.iso_script_lexer.specs.declared.word.Word.{Word}

-- a text has these pieces
abbrev pub Has : String → List Piece → Type 0
Has text pieces = ArePiecesOf (codes text) pieces

-- of a text on line 1 nothing is a token, and this is why
abbrev pub IsRefused : String → TokenFault → Type 0
IsRefused text fault = Has text (bad_at 1 fault ∷ [])

-- the position of a line and a column
abbrev pub at : (line column : ℕ) → Position
at l c = record { line = l; column = c }

abbrev pub name_at : (line column : ℕ) → String → Piece
name_at l c n = P.name_at (at l c) (codes n)

abbrev pub number_at : (line column : ℕ) → ℕ → Piece
number_at l c n = P.number_at (at l c) n

abbrev pub text_at : (line column : ℕ) → String → Piece
text_at l c t = P.text_at (at l c) (codes t)

-- symbols on line 1, by their columns
abbrev pub symbols : List (ℕ × Symbol) → List Piece
symbols = map (λ s. symbol_at (at 1 s.0) s.1)

-- reserved words on line 1 from a column on, with a space between two
abbrev pub words_from : (column : ℕ) → List Word → List Piece
words_from c [] = []
words_from c (w ∷ ws) = word_at (at 1 c) w ∷ words_from (c + length (spelling w) + 1) ws
