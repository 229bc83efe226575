-- Numbers: `front_of` reads what is spelled.
use Rattle.std.proofs.Common.{◌≡◌, ◌≢◌, ℕ, ◌≤◌, ◌^◌, List, [], ◌∷◌, ◌++◌, length, take, drop, Bool, true, false, cond, nat_le, Some, refl, ap, sym, ◌∙◌, one-add, arith}
use Rattle.std.proofs.lemmas.Bool.Decides.{nat_tests}
use Rattle.std.proofs.lemmas.List.{take-append-drop}
use Rattle.std.proofs.Math.Seq.{take-append_seam, drop-append_seam}
use Rattle.std.specs.List.{prefix_len}
use Rattle.iso_script_lexer.specs.Piece.{number_at}
use Rattle.iso_script_lexer.specs.Spelling.{is_letter, is_digit, in_name, begins_in}
use Rattle.iso_script_lexer.specs.LexicalGrammar.{Ends, EndsName, IsNumeral, decimal_value, spells_number}
use Rattle.iso_script_lexer.specs.TokenFaults.{number_fault, token_fault}
use Rattle.iso_script_lexer.specs.declared.token.TokenFault.TheVariants.{BadToken, NumberTooBig}
use Rattle.iso_script_lexer.specs.Scan.{number_piece, front_of}
use Rattle.iso_script_lexer.proofs.Decisions.{by_test}
use Rattle.iso_script_lexer.proofs.Prefixes.{All-take-prefix_len, prefix_len-append}
use Rattle.iso_script_lexer.proofs.Fronts.{Fronts, a_token, no_front, digit-no_letter, front_of-digit}
use Rattle.iso_script_lexer.specs.declared.token.Position.{Position}

digit-in_name : (b : ℕ) → in_name b ≡ false → is_digit b ≡ false
digit-in_name b h = grind (arith, nat_tests)

ends_digits : (rest : List ℕ) → EndsName rest → Ends is_digit rest
ends_digits [] h = tt
ends_digits (b ∷ rest) h = digit-in_name b h

begins_in-false : (rest : List ℕ) → EndsName rest → begins_in in_name rest ≡ false
begins_in-false [] h = refl
begins_in-false (b ∷ rest) h = h

ends_name : (rest : List ℕ) → begins_in in_name rest ≡ false → EndsName rest
ends_name [] h = tt
ends_name (b ∷ rest) h = h

number_piece-fits : (r : Position) (k : ℕ) (bs ds rest : List ℕ) → take k bs ≡ ds → drop k bs ≡ rest → begins_in in_name rest ≡ false → nat_le (decimal_value ds) 9223372036854775808 ≡ true →
    number_piece r k bs ≡ Some (number_at r (decimal_value ds), rest)
number_piece-fits r k bs ds rest front back end fits = rw (front, back, end, fits) refl

pub front_of-numeral : (r : Position) (ds rest : List ℕ) → IsNumeral ds → EndsName rest → decimal_value ds ≤ 2 ^ 63 → front_of r (ds ++ rest) ≡ Some (number_at r (decimal_value ds), rest)
front_of-numeral r [] rest h end small = absurd (h.0 refl)
front_of-numeral r (d ∷ ds) rest h end small =
    let fits : nat_le (decimal_value (d ∷ ds)) 9223372036854775808 ≡ true = grind (arith, nat_tests) in
    front_of-digit r d (ds ++ rest) h.1.0
    ∙ ap (λ k. number_piece r k ((d ∷ ds) ++ rest)) (prefix_len-append is_digit (d ∷ ds) rest h.1 (ends_digits rest end))
    ∙ number_piece-fits r (length (d ∷ ds)) ((d ∷ ds) ++ rest) (d ∷ ds) rest (take-append_seam (d ∷ ds) rest) (drop-append_seam (d ∷ ds) rest) (begins_in-false rest end) fits

take-not_empty : (b : ℕ) (bs : List ℕ) → is_digit b ≡ true → take (prefix_len is_digit (b ∷ bs)) (b ∷ bs) ≢ []
take-not_empty b bs h = rw (h, one-add) (λ e. cc)

second : {A : Type 0} (s t : Bool) (x y z : A) → s ≡ false → t ≡ true → cond s x (cond t y z) ≡ y
second false true x y z h k = refl
second false false x y z h k = cc
second true t x y z h k = cc

digit_fault : (b : ℕ) (bs : List ℕ) → is_digit b ≡ true → token_fault (b ∷ bs) ≡ number_fault (b ∷ bs)
digit_fault b bs h = second (is_letter b) (is_digit b) _ _ _ (digit-no_letter b h) h

pub number_front : (r : Position) (b : ℕ) (bs : List ℕ) → is_digit b ≡ true → Fronts r (b ∷ bs) (number_piece r (prefix_len is_digit (b ∷ bs)) (b ∷ bs))
number_front r b bs h =
    let k = prefix_len is_digit (b ∷ bs) in
    let fault : (t : Bool) → begins_in in_name (drop k (b ∷ bs)) ≡ t → cond t BadToken NumberTooBig ≡ token_fault (b ∷ bs) =
    λ t e. sym (digit_fault b bs h ∙ ap (λ t. cond t BadToken NumberTooBig) e) in
    by_test (Fronts r (b ∷ bs)) (begins_in in_name (drop k (b ∷ bs))) _ _ (λ e. no_front (fault true e))
    (λ e. by_test (Fronts r (b ∷ bs)) (nat_le (decimal_value (take k (b ∷ bs))) 9223372036854775808) _ _
    (λ small. a_token (spells_number (take k (b ∷ bs)) (sym (take-append-drop k (b ∷ bs)))
    (take-not_empty b bs h, All-take-prefix_len is_digit (b ∷ bs)) (ends_name _ e) (let fits : decimal_value (take k (b ∷ bs)) ≤ 2 ^ 63 = grind (arith, nat_tests) in fits)))
    (λ big. no_front (fault false e)))
