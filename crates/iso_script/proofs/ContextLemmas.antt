-- What stands before a place of a script.
use Rattle.std.proofs.Common.{◌≡◌, ◌≢◌, ◌<◌, List, [], ◌∷◌, ◌++◌, length, arith, refl, ap, subst, sym, ◌∙◌, append_assoc}
use Rattle.std.proofs.lemmas.List.Sums.{fold_push}
use Rattle.iso_script.specs.Contexts.{BeginAt, after_piece, open_after}
use Rattle.iso_script_lexer.specs.LexicalGrammar.{ArePiecesOf}
use Rattle.iso_script_lexer.specs.Piece.{Piece, tail}
use Rattle.iso_script_lexer.specs.Tokens.{front}
use Rattle.iso_script_lexer.specs.declared.token.Position.{Position}
use Rattle.iso_script_lexer.specs.declared.token.Token.{Token}
use Rattle.iso_script_lexer.specs.declared.token.Token.TheVariants.{End}

-- pieces whose first stands at a position begin there, and so does the end
pub begin_at : (t : Token) (p at : Position) (ps : List Piece) → ps ≡ front p t (tail ps) → p ≡ at → BeginAt at ps
begin_at t p at ps is same = (t, is ∙ ap (λ q. front q t (tail ps)) same)

pub end_at : (t : Token) (p at : Position) (ps : List Piece) → ps ≡ front p t (tail ps) → t ≡ End → BeginAt at ps
end_at t p at ps is end = (End, is ∙ ap (λ u. front p u (tail ps)) end)

pub tail_less : (ps : List Piece) → ps ≢ [] → length (tail ps) < length ps
tail_less [] some = absurd (some refl)
tail_less (p ∷ ps) some = omega arith

-- one piece is passed
pub passes : (bytes : List _) (passed here next : List Piece) (p : Position) (t : Token) (old new : List Position) → ArePiecesOf bytes (passed ++ here)
    → here ≡ front p t (tail here) → here ≢ [] → next ≡ tail here → old ≡ open_after passed
    → ((q : Piece) (ps : List Piece) → front p t ps ≡ q ∷ ps → new ≡ after_piece old q)
    → (more : List Piece) × ArePiecesOf bytes (more ++ next) × (new ≡ open_after more)
passes bytes passed [] next p t old new pieces is some ahead so_far pass = absurd (some refl)
passes bytes passed (q ∷ here) next p t old new pieces is some ahead so_far pass = (
  passed ++ q ∷ [],
  subst (λ ps. ArePiecesOf bytes ((passed ++ q ∷ []) ++ ps)) (sym ahead) (subst (ArePiecesOf bytes) (sym (append_assoc passed (q ∷ []) here)) pieces),
  pass q here (sym is) ∙ ap (λ braces. after_piece braces q) so_far ∙ sym (fold_push after_piece [] passed q),
)
