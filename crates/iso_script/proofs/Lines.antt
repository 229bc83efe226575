-- Later pieces stand on no earlier lines.
use Rattle.std.proofs.Common.{◌≡◌, ◌≤◌, ◌+◌, ◌-◌, ℕ, List, [], ◌∷◌, ◌++◌, refl, ap, subst, sym, ◌∙◌, arith}
use Rattle.iso_model.specs.Syntax.{Act, Acts, act}
use Rattle.iso_script_lexer.specs.LexicalGrammar.{IsGap, no_gap, a_blank, a_line, a_comment, Spells, spells_name, spells_word, spells_number, spells_text, spells_symbol, HasPieces, ends, goes_on, breaks_off, ArePiecesOf}
use Rattle.iso_script_lexer.specs.Piece.{Piece, symbol_at}
use Rattle.iso_script_lexer.specs.Positions.{Line}
use Rattle.iso_script_lexer.specs.declared.symbol.Symbol.{Symbol}
use Rattle.iso_script_lexer.specs.declared.symbol.Symbol.TheVariants.{OpenBrace}
use Rattle.iso_script_lexer.specs.declared.token.Position.{Position}
use Rattle.iso_script_statements.specs.Pieces.{line_of}
use Rattle.iso_script_statements.specs.Statements.{IsStatements, and_then}

gap_later : {r q : Line} {bs cs : List ℕ} → IsGap r bs q cs → r.0 ≤ q.0
gap_later no_gap = omega arith
gap_later (a_blank b h) = gap_later h
gap_later (a_line b h) = omega (arith, gap_later h)
gap_later (a_comment text rest a b is all closes h) = gap_later h

spelled_line : {r : Position} {bs rest : List ℕ} {p : Piece} → Spells r bs p rest → line_of p ≡ r.line
spelled_line (spells_name is name stops) = refl
spelled_line (spells_word is stops) = refl
spelled_line (spells_number digits is numeral stops few) = refl
spelled_line (spells_text is text) = refl
spelled_line (spells_symbol is longest) = refl

not_the_end : (before ps : List Piece) (p : Piece) → [] ≡ before ++ p ∷ ps → ⊥
not_the_end [] ps p h = cc
not_the_end (q ∷ before) ps p h = cc

same_tail : {p q : Piece} {ps qs : List Piece} → p ∷ ps ≡ q ∷ qs → (p ≡ q) × (ps ≡ qs)
same_tail h = (cc, cc)

-- a piece stands on the line from which the bytes are read, or on a later one
pub not_before : {r : Line} {bs : List ℕ} {all : List Piece} (before ps : List Piece) (p : Piece) → all ≡ before ++ p ∷ ps → HasPieces r bs all → r.0 ≤ line_of p
not_before [] ps p e (goes_on gap spells more) = let s = ap line_of (same_tail e).0 in omega (arith, gap_later gap, spelled_line spells, s)
not_before before ps p e (ends gap) = absurd (not_the_end before ps p e)
not_before [] ps p e (breaks_off gap none) = let s = ap line_of (same_tail e).0 in omega (arith, gap_later gap, s)
not_before (q ∷ before) ps p e (goes_on gap spells more) = omega (arith, gap_later gap, not_before before ps p (same_tail e).1 more)
not_before (q ∷ before) ps p e (breaks_off gap none) = absurd (not_the_end before ps p (same_tail e).1)

-- after a symbol the pieces are those of bytes from its line on
pub after_symbol : {r : Line} {bs : List ℕ} {all : List Piece} (before ps : List Piece) (b : Position) (s : Symbol)
    → all ≡ before ++ symbol_at b s ∷ ps → HasPieces r bs all → (q : Line) × (cs : List ℕ) × HasPieces q cs ps × (b.line ≡ q.0)
after_symbol [] ps b s e (goes_on {q = q} {ds = ds} gap spells more) =
    (q, ds, subst (HasPieces q ds) (same_tail e).1 more, sym (ap line_of (same_tail e).0) ∙ spelled_line spells)
after_symbol before ps b s e (ends gap) = absurd (not_the_end before ps (symbol_at b s) e)
after_symbol [] ps b s e (breaks_off gap none) = cc
after_symbol (q ∷ before) ps b s e (goes_on gap spells more) = after_symbol before ps b s (same_tail e).1 more
after_symbol (q ∷ before) ps b s e (breaks_off gap none) = absurd (not_the_end before ps (symbol_at b s) (same_tail e).1)

row_is : {d above row : ℕ} {a : Act} {more : Acts} {p : Piece} {ps qs : List Piece} → IsStatements d above (act row a more) (p ∷ ps) qs → row ≡ line_of p - above
row_is (and_then h k) = refl

pub row_from_brace : (bytes : List ℕ) (before within ps qs : List Piece) (b : Position) (p : Piece) (d row : ℕ) (a : Act) (more : Acts)
    → ArePiecesOf bytes (before ++ symbol_at b OpenBrace ∷ (within ++ p ∷ ps))
    → IsStatements d (b.line - 1) (act row a more) (p ∷ ps) qs → b.line + row - 1 ≡ line_of p
row_from_brace bytes before within ps qs b p d row a more spelled statements =
    let t = after_symbol before (within ++ p ∷ ps) b OpenBrace refl spelled in
    omega (arith, row_is statements, not_before before (within ++ p ∷ ps) (symbol_at b OpenBrace) refl spelled, t.3, not_before within ps p refl t.2)
