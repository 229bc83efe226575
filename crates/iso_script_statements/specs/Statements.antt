-- The grammar of statements and bodies, by rules. `IsX x ps qs` says that the pieces ps are those
-- of x, and then the pieces qs. A number d among the arguments says how many more bodies may be
-- opened, and above is how many lines stand above that of the block's opening brace, on which row 1
-- is.
--
-- grammar of statements: Which tokens are a statement, a body or a block, with the row of each
-- statement.
--
-- display text: A text that a report shows in place of a name, and a reason: 1 to 200 bytes, no
-- space at either end (`is_display`); before a class's brace and a test's body it may be absent
-- (`IsDisplayed`).
-- Also in: `Displays` of `iso_script`.
-- Standard: JUnit 5, `@DisplayName`.
use Rattle.std.specs.Global.{Global}
use Rattle.std.specs.Prelude.{ℕ, suc, ◌-◌, List, [], ◌∷◌, ◌≡◌, Bool, true, false, not, ◌&&◌, nat_le, nat_eq, length, get_or, Option, Some, None, Vec}
use Rattle.iso_script_lexer.specs.Piece.{Piece, name_at, text_at, word_at, symbol_at}
use Rattle.iso_script_lexer.specs.Tokens.{after_word}
use Rattle.iso_script_lexer.specs.declared.symbol.Symbol.TheVariants.{OpenBrace, CloseBrace, Semicolon, Comma, Equals}
use Rattle.iso_script_lexer.specs.declared.word.Word.{Word}
use Rattle.iso_script_lexer.specs.declared.word.Word.TheVariants as W
use Rattle.iso_model.specs.declared.limits.TheConstants.{BODY_DEPTH, DISPLAY_BYTES, PARENTHESES}
use Rattle.iso_model.specs.declared.tree.Expr.{Expr}
use Rattle.iso_model.specs.declared.tree.OneOperand.{OneOperand}
use Rattle.iso_model.specs.declared.tree.OneOperand.TheVariants.{Print, Assert, ClearProp, SetLocale, DeleteFile}
use Rattle.iso_model.specs.declared.tree.Stmt.{Stmt}
use Rattle.iso_model.specs.declared.tree.TwoOperands.{TwoOperands}
use Rattle.iso_model.specs.declared.tree.TwoOperands.TheVariants.{AssertEqual, SetProp, WriteFile, AppendFile}
use Rattle.iso_model.specs.Syntax.{Term, let_name, assign, assume, fail, Act, plain, choice, repeat, Acts, no_acts, act}
use Rattle.iso_model.specs.SyntaxView.{block_of, term_of, with_one, with_two}
use Rattle.iso_script_statements.specs.Expressions.{IsExpression, IsBefore}
use Rattle.iso_script_statements.specs.Pieces.{row_in}
use Rattle.iso_script_statements.specs.declared.simple.Simple.{Simple}
use Rattle.iso_script_statements.specs.declared.simple.Simple.TheVariants.{One, Two, Let, Assume, Fail}
use Rattle.iso_script_lexer.specs.declared.token.Position.{Position}

-- what a reserved word begins, besides `if` and `repeat`
abbrev pub simple_of : Word → Option Simple
simple_of W.Let = Some Let
simple_of W.Print = Some (One Print)
simple_of W.Assert = Some (One Assert)
simple_of W.AssertEqual = Some (Two AssertEqual)
simple_of W.Assume = Some Assume
simple_of W.Fail = Some Fail
simple_of W.SetProp = Some (Two SetProp)
simple_of W.ClearProp = Some (One ClearProp)
simple_of W.SetLocale = Some (One SetLocale)
simple_of W.WriteFile = Some (Two WriteFile)
simple_of W.AppendFile = Some (Two AppendFile)
simple_of W.DeleteFile = Some (One DeleteFile)
simple_of _ = None

-- the simple statement that is next
abbrev pub simple_next : List Piece → Option Simple
simple_next (word_at r w ∷ ps) = simple_of w
simple_next _ = None

-- whether a text may be a display text or a reason: it has 1 to 200 bytes, and neither the first
-- nor the last is a space
abbrev pub is_display : List ℕ → Bool
is_display [] = false
is_display (b ∷ bs) =
    nat_le (length (b ∷ bs)) DISPLAY_BYTES && not (nat_eq b 32)
    && not (nat_eq (get_or (b ∷ bs) (length bs) 0) 32)

-- a display text or a reason
pub data IsDisplay : List ℕ → List Piece → List Piece → Type 0 where
  a_display : {r : Position} {t : List ℕ} {ps : List Piece} → is_display t ≡ true
      → IsDisplay t (text_at r t ∷ ps) ps

-- a name, and the expression that it gets
pub data IsBinding : List ℕ × Term → List Piece → List Piece → Type 0 where
  a_binding : {r q : Position} {n : List ℕ} {e : Term} {ps qs : List Piece}
      → IsBefore Semicolon e ps qs → IsBinding (n, e) (name_at r n ∷ symbol_at q Equals ∷ ps) qs

-- what follows the word of a simple statement
pub data IsSimple : Simple → Act → List Piece → List Piece → Type 0 where
  of_one : {o : OneOperand} {e : Term} {ps qs : List Piece} → IsBefore Semicolon e ps qs
      → IsSimple (One o) (plain (with_one o e)) ps qs
  of_two : {o : TwoOperands} {e f : Term} {ps qs rs : List Piece}
      → IsBefore Comma e ps qs → IsBefore Semicolon f qs rs
      → IsSimple (Two o) (plain (with_two o e f)) ps rs
  a_let : {b : List ℕ × Term} {ps qs : List Piece} → IsBinding b ps qs
      → IsSimple Let (plain (let_name b.0 b.1)) ps qs
  an_assumption : {q : Position} {e : Term} {t : List ℕ} {ps qs rs : List Piece}
      → IsBefore Comma e ps qs → IsDisplay t qs (symbol_at q Semicolon ∷ rs)
      → IsSimple Assume (plain (assume e t)) ps rs
  a_fail : {r q : Position} {t : List ℕ} {ps : List Piece}
      → IsSimple Fail (plain (fail t)) (text_at r t ∷ symbol_at q Semicolon ∷ ps) ps

mutual
  pub data IsStatement : (d above : ℕ) → Act → List Piece → List Piece → Type 0 where
    a_simple : {d above : ℕ} {r : Position} {w : Word} {k : Simple} {a : Act} {ps qs : List Piece}
        → simple_of w ≡ Some k → IsSimple k a ps qs → IsStatement d above a (word_at r w ∷ ps) qs
    an_assignment : {d above : ℕ} {r : Position} {n : List ℕ} {b : List ℕ × Term}
        {ps qs : List Piece}
        → IsBinding b (name_at r n ∷ ps) qs
        → IsStatement d above (plain (assign b.0 b.1)) (name_at r n ∷ ps) qs
    an_if : {d above : ℕ} {r : Position} {e : Term} {a b : Acts} {ps qs rs ts : List Piece}
        → IsExpression PARENTHESES e ps qs → IsBody d above a qs rs → IsElse d above b rs ts
        → IsStatement d above (choice e a b) (word_at r W.If ∷ ps) ts
    a_repeat : {d above : ℕ} {r : Position} {e : Term} {a : Acts} {ps qs rs : List Piece}
        → IsExpression PARENTHESES e ps qs → IsBody d above a qs rs
        → IsStatement d above (repeat e a) (word_at r W.Repeat ∷ ps) rs

  -- the body of an `else`, and an empty one where there is none
  pub data IsElse : (d above : ℕ) → Acts → List Piece → List Piece → Type 0 where
    no_else : {d above : ℕ} {ps : List Piece} → after_word W.Else ps ≡ None
        → IsElse d above no_acts ps ps
    an_else : {d above : ℕ} {r : Position} {b : Acts} {ps qs : List Piece} → IsBody d above b ps qs
        → IsElse d above b (word_at r W.Else ∷ ps) qs

  -- statements, each with the row of its first token, and the brace that closes them
  pub data IsStatements : (d above : ℕ) → Acts → List Piece → List Piece → Type 0 where
    closed : {d above : ℕ} {r : Position} {ps : List Piece}
        → IsStatements d above no_acts (symbol_at r CloseBrace ∷ ps) ps
    and_then : {d above : ℕ} {a : Act} {body : Acts} {ps qs rs : List Piece}
        → IsStatement d above a ps qs → IsStatements d above body qs rs
        → IsStatements d above (act (row_in above ps) a body) ps rs

  -- a body
  pub data IsBody : (d above : ℕ) → Acts → List Piece → List Piece → Type 0 where
    a_body : {d above : ℕ} {r : Position} {body : Acts} {ps qs : List Piece}
        → IsStatements d above body ps qs
        → IsBody (suc d) above body (symbol_at r OpenBrace ∷ ps) qs

-- a block: the body of a test, or of a lifecycle block
pub data IsBlock : Acts → List Piece → List Piece → Type 0 where
  a_block : {r : Position} {body : Acts} {ps qs : List Piece}
      → IsBody BODY_DEPTH (r.line - 1) body (symbol_at r OpenBrace ∷ ps) qs
      → IsBlock body (symbol_at r OpenBrace ∷ ps) qs

-- what the statements of a body stand for
abbrev pub body_of : Vec Stmt Global → Acts
body_of v = block_of v.items

-- what a name and its expression stand for
abbrev pub binding_of : List ℕ × Expr → List ℕ × Term
binding_of b = (b.0, term_of b.1)
