-- What `after` and `after_word` tell of the pieces.
use Rattle.std.proofs.Common.{◌≡◌, List, [], ◌∷◌, Some, None, refl, inl, inr}
use Rattle.iso_script_lexer.specs.Piece.{Piece, symbol_at, word_at}
use Rattle.iso_script_lexer.specs.Spelling.{same_symbol, same_word}
use Rattle.iso_script_lexer.specs.Tokens.{after, after_word}
use Rattle.iso_script_lexer.specs.declared.symbol.Symbol.{Symbol}
use Rattle.iso_script_lexer.specs.declared.word.Word.{Word}
use Rattle.iso_script_lexer.proofs.Decisions.{chosen}
use Rattle.iso_script_lexer.proofs.Numbered.{same_symbol-true, same_word-true, same_symbol-refl, same_word-refl}
use Rattle.iso_script_lexer.specs.declared.token.Position.{Position}

pub after-symbol_at : (r : Position) (s : Symbol) (ps : List Piece) → after s (symbol_at r s ∷ ps) ≡ Some ps
after-symbol_at r s ps = rw (same_symbol-refl s) refl

pub after_word-word_at : (r : Position) (w : Word) (ps : List Piece) → after_word w (word_at r w ∷ ps) ≡ Some ps
after_word-word_at r w ps = rw (same_word-refl w) refl

pub after-Some : (s : Symbol) (ps qs : List Piece) → after s ps ≡ Some qs → (r : Position) × (ps ≡ symbol_at r s ∷ qs)
after-Some s [] qs h = cc
after-Some s (symbol_at r t ∷ ps) qs h =
    elim (chosen (same_symbol t s) (Some ps) None (Some qs) h) [
      | inl w ↦ (r, let e : t ≡ s = same_symbol-true t s w.0 in let f = w.1 in cc)
      | inr w ↦ cc
    ]
after-Some s (_ ∷ ps) qs h = cc

pub after_word-Some : (w : Word) (ps qs : List Piece) → after_word w ps ≡ Some qs → (r : Position) × (ps ≡ word_at r w ∷ qs)
after_word-Some w [] qs h = cc
after_word-Some w (word_at r v ∷ ps) qs h =
    elim (chosen (same_word v w) (Some ps) None (Some qs) h) [
      | inl t ↦ (r, let e : v ≡ w = same_word-true v w t.0 in let f = t.1 in cc)
      | inr t ↦ cc
    ]
after_word-Some w (_ ∷ ps) qs h = cc
