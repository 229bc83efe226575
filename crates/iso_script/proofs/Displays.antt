-- Display texts by their rules.
use Rattle.std.proofs.Common.{◌≡◌, ℕ, List, Option, None, Some, refl, ap, subst, sym}
use Rattle.iso_script_lexer.specs.Piece.{Piece, tail}
use Rattle.iso_script_lexer.specs.Tokens.{front}
use Rattle.iso_script_lexer.specs.declared.token.Position.{Position}
use Rattle.iso_script_lexer.specs.declared.token.Token.{Token}
use Rattle.iso_script_lexer.specs.declared.token.Token.TheVariants as T
use Rattle.iso_script_statements.specs.Pieces.{text_next}
use Rattle.iso_script_statements.specs.Statements.{IsDisplay, a_display}
use Rattle.iso_script_statements.proofs.Unique as U
use Rattle.iso_script.specs.Displays.{IsDisplayed, none_displayed, displayed}

some_text : {t : List ℕ} {ps qs : List Piece} → text_next ps ≡ None → IsDisplay t ps qs → ⊥
some_text none (a_display is) = cc

pub one_display : {a b : Option (List ℕ)} {ps qs rs : List Piece} → IsDisplayed a ps qs → IsDisplayed b ps rs → (a ≡ b) × (qs ≡ rs)
one_display (none_displayed h) (none_displayed k) = (refl, refl)
one_display (none_displayed h) (displayed k) = absurd (some_text h k)
one_display (displayed h) (none_displayed k) = absurd (some_text k h)
one_display (displayed h) (displayed k) = let u = U.one_display h k in (ap Some u.0, u.1)

pub not_displayed : (r : Position) (t : Token) (old : List Piece) → old ≡ front r t (tail old) → ((text : _) → t ≡ T.Text text → ⊥) → IsDisplayed None old old
not_displayed r t old is not_text = none_displayed (subst (λ ps. text_next ps ≡ None) (sym is) (go t not_text))
  where
    go : (t : Token) → ((text : _) → t ≡ T.Text text → ⊥) → text_next (front r t (tail old)) ≡ None
    go (T.Name n) h = refl
    go (T.Number n) h = refl
    go (T.Text x) h = absurd (h x refl)
    go (T.Word w) h = refl
    go (T.Symbol s) h = refl
    go T.End h = refl
    go (T.Bad f) h = refl
