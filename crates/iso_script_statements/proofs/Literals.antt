-- Literals by their rules, with what stands where as equations.
use Rattle.std.proofs.Common.{◌≡◌, ℕ, ℤ, pos, neg_ℤ, ◌^◌, ◌<◌, ◌≤◌, List, ◌∷◌, Some, None, true, false, refl, ap, subst, sym}
use Rattle.iso_script_lexer.specs.Piece.{Piece, number_at, text_at, symbol_at, tail}
use Rattle.iso_script_lexer.specs.Tokens.{after, after_word, front}
use Rattle.iso_script_lexer.specs.declared.text.QuotedText.{QuotedText}
use Rattle.iso_script_lexer.specs.declared.token.Token.{Token}
use Rattle.iso_script_lexer.specs.declared.token.Token.TheVariants as T
use Rattle.iso_script_lexer.specs.declared.symbol.Symbol.TheVariants.{Minus}
use Rattle.iso_script_lexer.specs.declared.word.Word.TheVariants as W
use Rattle.iso_script_lexer.proofs.Afters.{after_word-Some}
use Rattle.iso_model.specs.declared.data.Data.{Data}
use Rattle.iso_model.specs.declared.data.Data.TheVariants.{Whole, Flag, Text}
use Rattle.iso_script_statements.specs.Expressions.{IsLiteral, a_number, a_negative, a_text, a_true, a_false}
use Rattle.iso_script_lexer.specs.declared.token.Position.{Position}

-- what stands elsewhere by an equation is the same
told : {X : Type 0} (P : X → List Piece → List Piece → Type 0) (x y : X) (ps qs old new : List Piece) → x ≡ y → old ≡ ps → new ≡ qs → P x ps qs → P y old new
told P x y ps qs old new e f g h = subst (λ z. P z old new) e (subst (λ ps. P x ps new) (sym f) (subst (P x ps) (sym g) h))

pub is_number : (r : Position) (n : ℕ) (z : ℤ) (old new : List Piece) → z ≡ pos n → old ≡ number_at r n ∷ tail old → new ≡ tail old → n < 2 ^ 63 → IsLiteral (Whole z) old new
is_number r n z old new e f g h = told IsLiteral _ _ _ _ _ _ (ap Whole (sym e)) f g (a_number h)

pub is_negative : (q r : Position) (n : ℕ) (z : ℤ) (old new : List Piece) → z ≡ neg_ℤ (pos n)
    → old ≡ number_at r n ∷ tail old → new ≡ tail old → n ≤ 2 ^ 63 → IsLiteral (Whole z) (symbol_at q Minus ∷ old) new
is_negative q r n z old new e f g h = told IsLiteral _ _ _ _ _ _ (ap Whole (sym e)) (ap (λ ps. symbol_at q Minus ∷ ps) f) g (a_negative h)

pub is_text : (r : Position) (t u : List ℕ) (old new : List Piece) → u ≡ t → old ≡ text_at r t ∷ tail old → new ≡ tail old → IsLiteral (Text u) old new
is_text r t u old new e f g = told IsLiteral _ _ _ _ _ _ (ap Text (sym e)) f g a_text

pub is_true : (old new : List Piece) → after_word W.True old ≡ Some new → IsLiteral (Flag true) old new
is_true old new h = let s = after_word-Some W.True old new h in told IsLiteral _ _ _ _ _ _ refl s.1 refl a_true

pub is_false : (old new : List Piece) → after_word W.False old ≡ Some new → IsLiteral (Flag false) old new
is_false old new h = let s = after_word-Some W.False old new h in told IsLiteral _ _ _ _ _ _ refl s.1 refl a_false

-- where no minus, number, text or flag is next, no literal is read
pub no_literal : (r : Position) (t : Token) (ps : List Piece) {x : Data} {rest : List Piece} → ps ≡ front r t (tail ps)
    → ((n : ℕ) → t ≡ T.Number n → ⊥) → ((q : QuotedText) → t ≡ T.Text q → ⊥)
    → after Minus ps ≡ None → after_word W.True ps ≡ None → after_word W.False ps ≡ None → IsLiteral x ps rest → ⊥
no_literal r t ps is number text minus flag other (a_number {r = q} {n = n} {ps = qs} h) = go t number is
  where
    go : (t : Token) → ((n : ℕ) → t ≡ T.Number n → ⊥) → number_at q n ∷ qs ≡ front r t qs → ⊥
    go (T.Number m) number e = number m refl
    go (T.Name m) number e = cc
    go (T.Text m) number e = cc
    go (T.Word m) number e = cc
    go (T.Symbol m) number e = cc
    go T.End number e = cc
    go (T.Bad m) number e = cc
no_literal r t ps is number text minus flag other (a_text {r = q} {t = u} {ps = qs}) = go t text is
  where
    go : (t : Token) → ((q : QuotedText) → t ≡ T.Text q → ⊥) → text_at q u ∷ qs ≡ front r t qs → ⊥
    go (T.Text m) text e = text m refl
    go (T.Name m) text e = cc
    go (T.Number m) text e = cc
    go (T.Word m) text e = cc
    go (T.Symbol m) text e = cc
    go T.End text e = cc
    go (T.Bad m) text e = cc
no_literal r t ps is number text minus flag other (a_negative h) = cc
no_literal r t ps is number text minus flag other a_true = cc
no_literal r t ps is number text minus flag other a_false = cc
