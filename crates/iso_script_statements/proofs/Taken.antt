-- What was taken, or is next, stands in front.
use Rattle.std.proofs.Common.{◌≡◌, ℕ, List, [], ◌∷◌, Option, Some, None, is_some, true, refl, ap, sym, ◌∙◌}
use Rattle.std.proofs.lemmas.Option.{some_pair_parts}
use Rattle.iso_script_lexer.specs.Piece.{Piece, name_at, number_at, text_at, word_at, symbol_at, bad_at, tail}
use Rattle.iso_script_lexer.specs.Tokens.{after, after_word}
use Rattle.iso_script_lexer.specs.declared.symbol.Symbol.{Symbol}
use Rattle.iso_script_lexer.specs.declared.word.Word.{Word}
use Rattle.iso_script_lexer.proofs.Afters.{after-Some, after_word-Some}
use Rattle.iso_script_statements.specs.Pieces.{name_next}
use Rattle.iso_script_lexer.specs.declared.token.Position.{Position}

-- a symbol that is next stands in front
pub stands_in_front : (s : Symbol) (ps : List Piece) → true ≡ is_some (after s ps) → (r : Position) × (ps ≡ symbol_at r s ∷ tail ps)
stands_in_front s ps h = go (after s ps) refl h
  where
    go : (o : Option (List Piece)) → after s ps ≡ o → true ≡ is_some o → (r : Position) × (ps ≡ symbol_at r s ∷ tail ps)
    go (Some rest) e h = let a = after-Some s ps rest e in (a.0, a.1 ∙ ap (λ qs. symbol_at a.0 s ∷ qs) (sym (ap tail a.1)))
    go None e h = cc

-- a name that was taken stood in front
pub name_is : (n : List ℕ) (ps rest : List Piece) → name_next ps ≡ Some (n, rest) → (q : Position) × (ps ≡ name_at q n ∷ rest)
name_is n (name_at r m ∷ ps) rest h = let e = some_pair_parts m n ps rest h in (r, ap (λ k. name_at r k ∷ ps) e.0 ∙ ap (λ qs. name_at r n ∷ qs) e.1)
name_is n (number_at r m ∷ ps) rest h = cc
name_is n (text_at r t ∷ ps) rest h = cc
name_is n (word_at r w ∷ ps) rest h = cc
name_is n (symbol_at r s ∷ ps) rest h = cc
name_is n (bad_at r fault ∷ ps) rest h = cc
name_is n [] rest h = cc

-- a word and a name that were taken stood in front
pub named : (w : Word) (n : List ℕ) (old ps qs : List Piece) → after_word w old ≡ Some ps → name_next ps ≡ Some (n, qs) → (r : Position) × (q : Position) × (old ≡ word_at r w ∷ name_at q n ∷ qs)
named w n old ps qs word name =
    let a = after_word-Some w old ps word in
    let b = name_is n ps qs name in
    (a.0, b.0, a.1 ∙ ap (λ ps. word_at a.0 w ∷ ps) b.1)
