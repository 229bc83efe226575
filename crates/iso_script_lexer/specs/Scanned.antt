-- What the code's scan of the front of bytes has seen.
use Rattle.std.specs.Prelude.{ℕ, ◌≤◌, List, Some, None, Result, Ok, Err, length}
use Rattle.std.specs.Borrow.{Bor}
use Rattle.iso_script_lexer.specs.Piece.{name_at, number_at, text_at, word_at, symbol_at, bad_at}
use Rattle.iso_script_lexer.specs.Scan.{Front, no_token}
use Rattle.iso_script_lexer.specs.Tokens.{text_of}
use Rattle.iso_script_lexer.specs.declared.scan.Misspelling.{Misspelling}
use Rattle.iso_script_lexer.specs.declared.token.Position.{Position}
use Rattle.iso_script_lexer.specs.declared.token.Token.{Token}
use Rattle.iso_script_lexer.specs.declared.token.Token.TheVariants.{Name, Number, Text, Word, Symbol, End, Bad}

-- a token at its position, and the bytes after it
abbrev pub shown : Position → Token → List ℕ → Front
shown at (Name n) rest = Some (name_at at n.now, rest)
shown at (Number n) rest = Some (number_at at n, rest)
shown at (Text t) rest = Some (text_at at (text_of t), rest)
shown at (Word w) rest = Some (word_at at w, rest)
shown at (Symbol s) rest = Some (symbol_at at s, rest)
shown at End rest = None
shown at (Bad fault) rest = Some (bad_at at.line fault, rest)

-- what a scan of the front has seen at its position
abbrev pub seen : Position → Result (Token × Bor (List ℕ)) Misspelling → Front
seen at (Ok f) = shown at f.0 f.1.now
seen at (Err e) = no_token at e.fault

-- what a scan of `n` bytes has left, or the offset of its fault, lies within them
abbrev pub IsWithin : ℕ → Result (Token × Bor (List ℕ)) Misspelling → Type 0
IsWithin n (Ok f) = length f.1.now ≤ n
IsWithin n (Err e) = e.offset ≤ n
