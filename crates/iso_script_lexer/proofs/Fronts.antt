-- How `front_of` begins.
use Rattle.std.proofs.Common.{◌≡◌, ℕ, List, [], ◌∷◌, true, false, nat_eq, Some, None, refl, arith}
use Rattle.std.proofs.lemmas.Bool.Decides.{nat_tests}
use Rattle.std.specs.List.{prefix_len}
use Rattle.iso_script_lexer.specs.Piece.{Piece, bad_at}
use Rattle.iso_script_lexer.specs.Spelling.{is_letter, is_digit, in_name, is_blank}
use Rattle.iso_script_lexer.specs.LexicalGrammar.{Spells}
use Rattle.iso_script_lexer.specs.TokenFaults.{token_fault}
use Rattle.iso_script_lexer.specs.declared.token.TokenFault.{TokenFault}
use Rattle.iso_script_lexer.specs.Scan.{gap_from, Front, after_gap, name_piece, number_piece, text_piece, symbol_piece, symbol_front, double_symbol, single_symbol, longest_symbol, quoted_length, front_of}
use Rattle.iso_script_lexer.specs.declared.token.Position.{Position}
use Rattle.iso_script_lexer.specs.Positions.{Line}

-- what `front_of` answers: a token that is spelled, or why there is none
pub data Fronts : Position → List ℕ → Front → Type 0 where
  at_end : {r : Position} → Fronts r [] None
  a_token : {r : Position} {cs rest : List ℕ} {p : Piece} → Spells r cs p rest → Fronts r cs (Some (p, rest))
  no_front : {r : Position} {b : ℕ} {bs : List ℕ} {fault : TokenFault} → fault ≡ token_fault (b ∷ bs) → Fronts r (b ∷ bs) (Some (bad_at r.line fault, []))

-- a byte that begins no gap
pub record BeginsNoGap (b : ℕ) : Type 0 where
  pub no_line : nat_eq b 10 ≡ false
  pub no_blank : is_blank b ≡ false
  pub no_slash : nat_eq b 47 ≡ false

pub stays : (r : Line) (b : ℕ) (bs : List ℕ) → BeginsNoGap b → after_gap false r (b ∷ bs) ≡ (r, b ∷ bs)
unfolding gap_from
stays r b bs h = rw (h.no_line, h.no_blank, h.no_slash) refl

pub letter-BeginsNoGap : (b : ℕ) → is_letter b ≡ true → BeginsNoGap b
letter-BeginsNoGap b h = record { no_line = grind (arith, nat_tests); no_blank = grind (arith, nat_tests); no_slash = grind (arith, nat_tests) }

pub digit-BeginsNoGap : (b : ℕ) → is_digit b ≡ true → BeginsNoGap b
digit-BeginsNoGap b h = record { no_line = grind (arith, nat_tests); no_blank = grind (arith, nat_tests); no_slash = grind (arith, nat_tests) }

pub front_of-letter : (r : Position) (b : ℕ) (bs : List ℕ) → is_letter b ≡ true → front_of r (b ∷ bs) ≡ name_piece r (prefix_len in_name (b ∷ bs)) (b ∷ bs)
unfolding front_of
front_of-letter r b bs h = rw h refl

pub digit-no_letter : (b : ℕ) → is_digit b ≡ true → is_letter b ≡ false
digit-no_letter b h = grind (arith, nat_tests)

pub front_of-digit : (r : Position) (b : ℕ) (bs : List ℕ) → is_digit b ≡ true → front_of r (b ∷ bs) ≡ number_piece r (prefix_len is_digit (b ∷ bs)) (b ∷ bs)
unfolding front_of
front_of-digit r b bs h = rw (digit-no_letter b h, h) refl

pub front_of-quote : (r : Position) (bs : List ℕ) → front_of r (34 ∷ bs) ≡ text_piece r (quoted_length false 4096 bs) bs
unfolding front_of
front_of-quote r bs = refl

pub front_of-other : (r : Position) (b : ℕ) (bs : List ℕ) → is_letter b ≡ false → is_digit b ≡ false
    → nat_eq b 34 ≡ false → front_of r (b ∷ bs) ≡ symbol_piece r b (longest_symbol (double_symbol b bs) (single_symbol b) bs)
unfolding front_of symbol_front
front_of-other r b bs l d q = rw (l, d, q) refl
