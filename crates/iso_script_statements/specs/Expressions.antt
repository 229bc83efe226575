-- The grammar of expressions, by rules. `IsX x ps qs` says that the pieces ps are those of x, and
-- then the pieces qs. A number d among the arguments says how many more parentheses may be opened.
--
-- grammar of expressions: Which tokens are a literal, an operand, a chain or a comparison; chains
-- group to the left and never mix operators.
use Rattle.std.specs.Global.{Global}
use Rattle.std.specs.Prelude.{ℕ, suc, ◌-◌, ◌<◌, ◌≤◌, ◌^◌, pos, neg_ℤ, List, ◌∷◌, ◌≡◌, true, false, Option, Some, None, Vec, option_map}
use Rattle.iso_script_lexer.specs.Piece.{Piece, name_at, number_at, text_at, word_at, symbol_at}
use Rattle.iso_script_lexer.specs.declared.symbol.Symbol.{Symbol}
use Rattle.iso_script_lexer.specs.declared.symbol.Symbol.TheVariants.{OpenParen, CloseParen, Plus, Minus, Star, PlusPlus, EqualsEquals, NotEquals, Less}
use Rattle.iso_script_lexer.specs.declared.word.Word.{Word}
use Rattle.iso_script_lexer.specs.declared.word.Word.TheVariants as W
use Rattle.iso_model.specs.declared.data.Data.{Data}
use Rattle.iso_model.specs.declared.data.Data.TheVariants.{Whole, Flag, Text}
use Rattle.iso_model.specs.declared.limits.TheConstants.{OPERANDS, PARENTHESES}
use Rattle.iso_model.specs.declared.tree.Comparison.{Comparison}
use Rattle.iso_model.specs.declared.tree.Comparison.TheVariants as C
use Rattle.iso_model.specs.declared.tree.Expr.{Expr}
use Rattle.iso_model.specs.declared.tree.Function.{Function}
use Rattle.iso_model.specs.declared.tree.Function.TheVariants as F
use Rattle.iso_model.specs.declared.tree.Operator.{Operator}
use Rattle.iso_model.specs.declared.tree.Operator.TheVariants as O
use Rattle.iso_model.specs.Syntax.{Term, Terms, literal, name, chain, compare, call, locale, no_terms, term}
use Rattle.iso_model.specs.SyntaxView.{terms_of_all}
use Rattle.iso_script_statements.specs.declared.expression.Infix.{Infix}
use Rattle.iso_script_statements.specs.declared.expression.Infix.TheVariants.{Chain, Compare}
use Rattle.iso_script_lexer.specs.declared.token.Position.{Position}

-- A literal. A number is at most 2^63 - 1, and after a minus at most 2^63.
pub data IsLiteral : Data → List Piece → List Piece → Type 0 where
  a_number : {r : Position} {n : ℕ} {ps : List Piece} → n < 2 ^ 63
      → IsLiteral (Whole (pos n)) (number_at r n ∷ ps) ps
  a_negative : {q r : Position} {n : ℕ} {ps : List Piece} → n ≤ 2 ^ 63
      → IsLiteral (Whole (neg_ℤ (pos n))) (symbol_at q Minus ∷ number_at r n ∷ ps) ps
  a_text : {r : Position} {t : List ℕ} {ps : List Piece} → IsLiteral (Text t) (text_at r t ∷ ps) ps
  a_true : {r : Position} {ps : List Piece} → IsLiteral (Flag true) (word_at r W.True ∷ ps) ps
  a_false : {r : Position} {ps : List Piece} → IsLiteral (Flag false) (word_at r W.False ∷ ps) ps

-- what a symbol is between operands
abbrev pub infix_of : Symbol → Option Infix
infix_of Plus = Some (Chain O.Add)
infix_of Minus = Some (Chain O.Subtract)
infix_of Star = Some (Chain O.Multiply)
infix_of PlusPlus = Some (Chain O.Join)
infix_of EqualsEquals = Some (Compare C.Equal)
infix_of NotEquals = Some (Compare C.NotEqual)
infix_of Less = Some (Compare C.Less)
infix_of _ = None

-- the operator that is next
abbrev pub infix_next : List Piece → Option (Symbol × Infix)
infix_next (symbol_at r s ∷ ps) = option_map (λ i. (s, i)) (infix_of s)
infix_next _ = None

-- what a reserved word calls
abbrev pub function_of : Word → Option Function
function_of W.Text = Some F.Text
function_of W.Len = Some F.Len
function_of W.Prop = Some F.Prop
function_of W.HasProp = Some F.HasProp
function_of W.File = Some F.File
function_of W.HasFile = Some F.HasFile
function_of _ = None

-- the function that is next
abbrev pub function_next : List Piece → Option Function
function_next (word_at r w ∷ ps) = function_of w
function_next _ = None

-- what follows the word `locale`
pub data IsLocale : (d : ℕ) → Term → List Piece → List Piece → Type 0 where
  no_argument : {d : ℕ} {r q : Position} {ps : List Piece}
      → IsLocale (suc d) locale (symbol_at r OpenParen ∷ symbol_at q CloseParen ∷ ps) ps

mutual
  -- an operand
  pub data IsOperand : (d : ℕ) → Term → List Piece → List Piece → Type 0 where
    a_literal : {d : ℕ} {x : Data} {ps qs : List Piece} → IsLiteral x ps qs
        → IsOperand d (literal x) ps qs
    a_name : {d : ℕ} {r : Position} {n : List ℕ} {ps : List Piece}
        → IsOperand d (name n) (name_at r n ∷ ps) ps
    in_parentheses : {d : ℕ} {r : Position} {e : Term} {ps qs : List Piece}
        → IsEnclosed d e (symbol_at r OpenParen ∷ ps) qs
        → IsOperand d e (symbol_at r OpenParen ∷ ps) qs
    a_call : {d : ℕ} {r : Position} {w : Word} {f : Function} {e : Term} {ps qs : List Piece}
        → function_of w ≡ Some f → IsEnclosed d e ps qs
        → IsOperand d (call f e) (word_at r w ∷ ps) qs
    the_locale : {d : ℕ} {r : Position} {e : Term} {ps qs : List Piece} → IsLocale d e ps qs
        → IsOperand d e (word_at r W.Locale ∷ ps) qs

  -- an expression between parentheses
  pub data IsEnclosed : (d : ℕ) → Term → List Piece → List Piece → Type 0 where
    enclosed : {d : ℕ} {r q : Position} {e : Term} {ps qs : List Piece}
        → IsExpression d e ps (symbol_at q CloseParen ∷ qs)
        → IsEnclosed (suc d) e (symbol_at r OpenParen ∷ ps) qs

  -- Operands, with the same operator before each: at most n. No operator follows them.
  pub data IsChained : (d : ℕ) (s : Symbol) (n : ℕ) → Terms → List Piece → List Piece → Type 0 where
    chained : {d n : ℕ} {s : Symbol} {ps : List Piece} → infix_next ps ≡ None
        → IsChained d s n no_terms ps ps
    and_then : {d n : ℕ} {r : Position} {s : Symbol} {e : Term} {es : Terms} {ps qs rs : List Piece}
        → IsOperand d e ps qs → IsChained d s n es qs rs
        → IsChained d s (suc n) (term e es) (symbol_at r s ∷ ps) rs

  -- An expression: one operand, a chain of up to 32 by one operator, which groups to the left, or
  -- two that are compared. That no operator follows excludes nothing, since what may follow an
  -- expression is no operator. It keeps `a + b` from being read as `a` with `+ b` behind it, and
  -- operators from being mixed.
  pub data IsExpression : (d : ℕ) → Term → List Piece → List Piece → Type 0 where
    an_operand : {d : ℕ} {e : Term} {ps qs : List Piece} → IsOperand d e ps qs
        → infix_next qs ≡ None → IsExpression d e ps qs
    a_chain : {d : ℕ} {r : Position} {s : Symbol} {op : Operator} {e : Term} {es : Terms}
        {ps qs rs : List Piece}
        → infix_of s ≡ Some (Chain op) → IsOperand d e ps (symbol_at r s ∷ qs)
        → IsChained d s (OPERANDS - 1) es (symbol_at r s ∷ qs) rs
        → IsExpression d (chain op e es) ps rs
    a_comparison : {d : ℕ} {r : Position} {s : Symbol} {c : Comparison} {e f : Term}
        {ps qs rs : List Piece}
        → infix_of s ≡ Some (Compare c) → IsOperand d e ps (symbol_at r s ∷ qs)
        → IsOperand d f qs rs → infix_next rs ≡ None
        → IsExpression d (compare c e f) ps rs

-- an expression of a statement, and the symbol that follows it
pub data IsBefore : Symbol → Term → List Piece → List Piece → Type 0 where
  before : {q : Position} {s : Symbol} {e : Term} {ps qs : List Piece}
      → IsExpression PARENTHESES e ps (symbol_at q s ∷ qs)
      → IsBefore s e ps qs

-- what several expressions stand for
abbrev pub terms_in : Vec Expr Global → Terms
terms_in v = terms_of_all v.items
