-- Tokens of the code as pieces.
use Rattle.std.specs.Prelude.{ℕ, ◌≤◌, ◌^◌, List, [], ◌∷◌, Option, Some, None, false, if◌then◌else◌}
use Rattle.iso_script_lexer.specs.Piece.{Piece, name_at, number_at, text_at, word_at, symbol_at, bad_at}
use Rattle.iso_script_lexer.specs.Spelling.{same_symbol, same_word}
use Rattle.iso_script_lexer.specs.Text.{decoded}
use Rattle.iso_script_lexer.specs.LexicalGrammar.{IsName}
use Rattle.iso_script_lexer.specs.declared.symbol.Symbol as S
use Rattle.iso_script_lexer.specs.declared.word.Word as W
use Rattle.iso_script_lexer.specs.declared.text.QuotedText.{QuotedText}
use Rattle.iso_script_lexer.specs.declared.token.Position.{Position}
use Rattle.iso_script_lexer.specs.declared.token.Token.{Token}
use Rattle.iso_script_lexer.specs.declared.token.Token.TheVariants.{Name, Number, Text, Word, Symbol, End, Bad}

-- what a quoted text means
abbrev pub text_of : QuotedText → List ℕ
text_of t = decoded false t.raw.now

-- a name is one, and a number is at most 2^63; what a text and a reserved word are, their types say
abbrev pub IsToken : Token → Type 0
IsToken (Name n) = IsName n.now
IsToken (Number n) = n ≤ 2 ^ 63
IsToken _ = Unit {0}

-- a token at its position, before the pieces after it; of what is no token the line is told
abbrev pub front : Position → Token → List Piece → List Piece
front at (Name n) ps = name_at at n.now ∷ ps
front at (Number n) ps = number_at at n ∷ ps
front at (Text t) ps = text_at at (text_of t) ∷ ps
front at (Word w) ps = word_at at w ∷ ps
front at (Symbol s) ps = symbol_at at s ∷ ps
front at End ps = []
front at (Bad fault) ps = bad_at at.line fault ∷ ps

-- what follows a symbol, where it is next
abbrev pub after : S.Symbol → List Piece → Option (List Piece)
after s (symbol_at at t ∷ ps) = if same_symbol t s then Some ps else None
after s _ = None

-- what follows a reserved word, where it is next
abbrev pub after_word : W.Word → List Piece → Option (List Piece)
after_word w (word_at at v ∷ ps) = if same_word v w then Some ps else None
after_word w _ = None
