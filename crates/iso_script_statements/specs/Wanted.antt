-- What is wanted where a fault is answered, and whether what is next is it.
--
-- what is wanted: What could stand at a place, and whether what is next is it (`takes`); where it
-- isn't, a fault tells it (`IsUnmet`, `Tells`). After an expression it is what `after_operand`
-- gives.
-- Also in: `Reasons`.
use Rattle.std.specs.Prelude.{◌≡◌, ℕ, ◌^◌, List, [], ◌∷◌, Bool, true, false, ◌||◌, ◌&&◌, nat_lt, nat_le, is_some}
use Rattle.iso_script_lexer.specs.Piece.{Piece, name_at, number_at, text_at, word_at, symbol_at, bad_at}
use Rattle.iso_script_lexer.specs.Spelling.{same_symbol, same_word}
use Rattle.iso_script_lexer.specs.Tokens.{text_of}
use Rattle.iso_script_lexer.specs.declared.symbol.Symbol.{Symbol}
use Rattle.iso_script_lexer.specs.declared.symbol.Symbol.TheVariants.{OpenBrace, CloseBrace, OpenParen, Minus}
use Rattle.iso_script_lexer.specs.declared.token.Token.{Token}
use Rattle.iso_script_lexer.specs.declared.token.Token.TheVariants as T
use Rattle.iso_script_lexer.specs.declared.word.Word.{Word}
use Rattle.iso_script_lexer.specs.declared.word.Word.TheVariants as W
use Rattle.iso_script_statements.specs.Expressions.{function_of, infix_of}
use Rattle.iso_script_statements.specs.Statements.{simple_of}
use Rattle.iso_script_statements.specs.declared.wanted.Operators.{Operators}
use Rattle.iso_script_statements.specs.declared.wanted.Operators.TheVariants as O
use Rattle.iso_script_statements.specs.declared.wanted.Wanted as D
use Rattle.iso_script_statements.specs.declared.wanted.Wanted.TheVariants as V

-- what stands next, wherever it stands
pub data Next : Type 0 where
  a_name : Next
  a_number : ℕ → Next
  a_text : List ℕ → Next
  a_word : Word → Next
  a_symbol : Symbol → Next
  the_end : Next
  no_token : Next

-- what is next among pieces
abbrev pub next_of : List Piece → Next
next_of [] = the_end
next_of (name_at r n ∷ ps) = a_name
next_of (number_at r n ∷ ps) = a_number n
next_of (text_at r t ∷ ps) = a_text t
next_of (word_at r w ∷ ps) = a_word w
next_of (symbol_at r s ∷ ps) = a_symbol s
next_of (bad_at r fault ∷ ps) = no_token

-- what is next, where it is this token
abbrev pub seen : Token → Next
seen (T.Name n) = a_name
seen (T.Number n) = a_number n
seen (T.Text t) = a_text (text_of t)
seen (T.Word w) = a_word w
seen (T.Symbol s) = a_symbol s
seen T.End = the_end
seen (T.Bad fault) = no_token

-- the words that begin a mark, a static or field, a lifecycle block, and a test or class
abbrev pub begins_mark : Word → Bool
begins_mark W.SameThread = true
begins_mark W.Concurrent = true
begins_mark W.Isolated = true
begins_mark W.Disabled = true
begins_mark W.Read = true
begins_mark W.Write = true
begins_mark _ = false

abbrev pub begins_variable : Word → Bool
begins_variable w = same_word w W.Static || same_word w W.Field

abbrev pub begins_block : Word → Bool
begins_block W.BeforeAll = true
begins_block W.AfterAll = true
begins_block W.BeforeEach = true
begins_block W.AfterEach = true
begins_block _ = false

abbrev pub begins_class : Word → Bool
begins_class w = begins_mark w || same_word w W.Class

abbrev pub begins_member : Word → Bool
begins_member w = begins_mark w || (same_word w W.Test || same_word w W.Class)

-- the words that begin an operand, and a statement
abbrev pub begins_literal : Word → Bool
begins_literal w = same_word w W.True || same_word w W.False

abbrev pub begins_operand : Word → Bool
begins_operand w = is_some (function_of w) || (same_word w W.Locale || begins_literal w)

abbrev pub begins_statement : Word → Bool
begins_statement w = is_some (simple_of w) || (same_word w W.If || same_word w W.Repeat)

-- whether a list has something
abbrev pub is_some_text : List ℕ → Bool
is_some_text [] = false
is_some_text (b ∷ bs) = true

-- whether what is next is what is wanted
abbrev pub takes : D.Wanted → Next → Bool
takes (V.Word w) (a_word v) = same_word v w
takes (V.Symbol s) (a_symbol t) = same_symbol t s
takes V.Name a_name = true
takes V.Text (a_text t) = true
takes V.Number (a_number n) = nat_le n (2 ^ 63)
takes V.Literal (a_number n) = nat_lt n (2 ^ 63)
takes V.Literal (a_text t) = true
takes V.Literal (a_word w) = begins_literal w
takes V.Literal (a_symbol s) = same_symbol s Minus
takes V.Operand a_name = true
takes V.Operand (a_number n) = nat_lt n (2 ^ 63)
takes V.Operand (a_text t) = true
takes V.Operand (a_word w) = begins_operand w
takes V.Operand (a_symbol s) = same_symbol s Minus || same_symbol s OpenParen
takes (V.Operator follows) (a_symbol s) = is_some (infix_of s) || same_symbol s follows
takes (V.SameOperator operator follows) (a_symbol s) =
    (is_some (infix_of s) && same_symbol s operator) || same_symbol s follows
takes V.Statement a_name = true
takes V.Statement (a_word w) = begins_statement w
takes V.Statement (a_symbol s) = same_symbol s CloseBrace
takes V.StatementOrElse a_name = true
takes V.StatementOrElse (a_word w) = begins_statement w || same_word w W.Else
takes V.StatementOrElse (a_symbol s) = same_symbol s CloseBrace
takes V.Display (a_text t) = true
takes V.Display (a_symbol s) = same_symbol s OpenBrace
takes V.Key (a_text t) = is_some_text t
takes V.Target (a_text t) = is_some_text t
takes V.Target (a_word w) = same_word w W.Children
takes V.TopClass (a_word w) = begins_class w
takes V.TopClass the_end = true
takes V.ClassPart (a_word w) = begins_variable w || (begins_block w || begins_member w)
takes V.BlockOrMember (a_word w) = begins_block w || begins_member w
takes V.Member (a_word w) = begins_member w
takes V.Member (a_symbol s) = same_symbol s CloseBrace
takes V.MarkedMember (a_word w) = begins_member w
takes V.MarkedClass (a_word w) = begins_class w
takes _ _ = false

-- what is wanted after an expression that these operators may follow, and then this symbol
abbrev pub after_operand : Operators → Symbol → D.Wanted
after_operand O.Any s = V.Operator s
after_operand (O.Same operator) s = V.SameOperator operator s
after_operand O.None s = V.Symbol s

-- this is wanted, and what is next is something else
abbrev pub IsUnmet : D.Wanted → List Piece → Type 0
IsUnmet wanted ps = takes wanted (next_of ps) ≡ false

-- this is wanted in a body, where no statement is next, and no brace that closes the body
abbrev pub IsInBody : List Piece → D.Wanted → Type 0
IsInBody ps wanted = takes V.Statement (next_of ps) ≡ false → IsUnmet wanted ps
