-- A reader reads back what was escaped for it.
use Rattle.std.proofs.Common.{◌≡◌, ◌<◌, ℕ, zero, suc, List, [], ◌∷◌, ◌++◌, None, Some, Bool, true, false, ◌&&◌, ◌==◌, cond, codes, refl, sym, ap, ◌∙◌, true≢false, arith, append_assoc, append-nil}
use Rattle.std.proofs.lemmas.Bool.Decides.{nat_tests}
use Rattle.std.specs.Char.{is_ascii_control, is_ascii_digit}
use Rattle.std.specs.Fmt.{decimal, digits}
use Rattle.std.specs.List.{list_all}
use Rattle.iso_junit.specs.Escapes.{escaped, escaped_byte, numbered}
use Rattle.iso_junit.specs.Readers.{number_from, read_from, referred, unescaped, with_byte}

-- whether all numbers below n pass
abbrev all_below : (ℕ → Bool) → ℕ → Bool
all_below p zero = true
all_below p (suc n) = p n && all_below p n

both : (a b : Bool) → (a && b) ≡ true → (a ≡ true) × (b ≡ true)
both true b h = (refl, h)
both false b h = absurd (true≢false (sym h))

below : (p : ℕ → Bool) (b n : ℕ) → b < n → all_below p n ≡ true → p b ≡ true
below p b zero less h = absurd (omega arith)
below p b (suc n) less h = by (b == n) refl (λ further. below p b n further (both (p n) (all_below p n) h).1)
  where
    by : (t : Bool) → (b == n) ≡ t → (b < n → p b ≡ true) → p b ≡ true
    by true e next = let same : b ≡ n = grind (arith, nat_tests) in ap p same ∙ (both (p n) (all_below p n) h).0
    by false e next = let further : b < n = grind (arith, nat_tests) in next further

-- the number of a byte of ASCII is read back
abbrev is_read : ℕ → Bool
is_read b = (number_from 0 (decimal b) == b) && list_all is_ascii_digit (decimal b)

all_are_read : all_below is_read 128 ≡ true
unfolding digits
all_are_read = refl

-- digits of a reference, up to its end
digits_run : (name ds t : List ℕ) → list_all is_ascii_digit ds ≡ true → read_from (Some name) (ds ++ 59 ∷ t) ≡ with_byte (referred (name ++ ds)) (read_from None t)
digits_run name [] t h = ap (λ (n : List ℕ). with_byte (referred n) (read_from None t)) (sym (append-nil name))
digits_run name (d ∷ ds) t h =
    let is = both (is_ascii_digit d) (list_all is_ascii_digit ds) h in
    let inside : (d == 59) ≡ false = grind (arith, nat_tests) in
    rw inside (digits_run (name ++ d ∷ []) ds t is.1 ∙ ap (λ (n : List ℕ). with_byte (referred n) (read_from None t)) (append_assoc name (d ∷ []) ds))

named : (b n : ℕ) → (b == n) ≡ true → b ≡ n
named b n e = grind (arith, nat_tests)

number_back : (b : ℕ) (t : List ℕ) → is_ascii_control b ≡ true → read_from None (numbered b ++ t) ≡ with_byte (Some b) (read_from None t)
number_back b t h =
    let small : b < 128 = grind (arith, nat_tests) in
    let is = both (number_from 0 (decimal b) == b) (list_all is_ascii_digit (decimal b)) (below is_read b 128 small all_are_read) in
    let same = named (number_from 0 (decimal b)) b is.0 in
    ap (λ (bs : List ℕ). read_from (Some (codes "#")) bs) (append_assoc (decimal b) (codes ";") t)
    ∙ digits_run (codes "#") (decimal b) t is.1
    ∙ ap (λ (n : ℕ). with_byte (Some n) (read_from None t)) same

-- a byte and what follows it
byte_back : (b : ℕ) (t : List ℕ) → read_from None (escaped_byte b ++ t) ≡ with_byte (Some b) (read_from None t)
byte_back b t = by (b == 60) (b == 62) (b == 38) (b == 34) (is_ascii_control b) refl refl refl refl refl
  where
    by : (p q r s u : Bool) → (b == 60) ≡ p → (b == 62) ≡ q → (b == 38) ≡ r → (b == 34) ≡ s → is_ascii_control b ≡ u
        → read_from None (cond p (codes "&lt;") (cond q (codes "&gt;") (cond r (codes "&amp;") (cond s (codes "&quot;") (cond u (numbered b) (b ∷ []))))) ++ t) ≡ with_byte (Some b) (read_from None t)
    by true q r s u e f g h i = ap (λ (n : ℕ). with_byte (Some n) (read_from None t)) (sym (named b 60 e))
    by false true r s u e f g h i = ap (λ (n : ℕ). with_byte (Some n) (read_from None t)) (sym (named b 62 f))
    by false false true s u e f g h i = ap (λ (n : ℕ). with_byte (Some n) (read_from None t)) (sym (named b 38 g))
    by false false false true u e f g h i = ap (λ (n : ℕ). with_byte (Some n) (read_from None t)) (sym (named b 34 h))
    by false false false false true e f g h i = number_back b t i
    by false false false false false e f g h i = rw (g, e, f, h, i) refl

pub read-back : (text : List ℕ) → unescaped (escaped text) ≡ Some text
read-back [] = refl
read-back (b ∷ bs) = byte_back b (escaped bs) ∙ ap (with_byte (Some b)) (read-back bs)
