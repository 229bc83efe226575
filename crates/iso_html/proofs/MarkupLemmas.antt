-- Escaped texts have no markup.
use Rattle.std.proofs.Common.{◌≡◌, ◌<◌, ℕ, zero, suc, List, [], ◌∷◌, Bool, true, false, ◌&&◌, ◌==◌, cond, codes, refl, sym, ap, ap₂, ◌∙◌, true≢false, arith}
use Rattle.std.proofs.lemmas.Bool.Decides.{nat_tests}
use Rattle.std.proofs.lemmas.List.Folds.{list_all-append}
use Rattle.std.specs.Char.{is_ascii_control}
use Rattle.std.specs.Fmt.{digits}
use Rattle.std.specs.List.{list_all}
use Rattle.iso_html.specs.Markup.{is_no_markup}
use Rattle.iso_junit.specs.Escapes.{escaped, escaped_byte, numbered}

-- whether all numbers below n pass
abbrev all_below : (ℕ → Bool) → ℕ → Bool
all_below p zero = true
all_below p (suc n) = p n && all_below p n

both : (a b : Bool) → (a && b) ≡ true → (a ≡ true) × (b ≡ true)
both true b h = (refl, h)
both false b h = absurd (true≢false (sym h))

below : (p : ℕ → Bool) (b n : ℕ) → b < n → all_below p n ≡ true → p b ≡ true
below p b zero less h = absurd (omega arith)
below p b (suc n) less h = by (b == n) refl (λ further. below p b n further (both (p n) (all_below p n) h).1)
  where
    by : (t : Bool) → (b == n) ≡ t → (b < n → p b ≡ true) → p b ≡ true
    by true e next = let same : b ≡ n = grind (arith, nat_tests) in ap p same ∙ (both (p n) (all_below p n) h).0
    by false e next = let further : b < n = grind (arith, nat_tests) in next further

-- a byte by its number has none
abbrev is_free : ℕ → Bool
is_free b = list_all is_no_markup (numbered b)

all_are_free : all_below is_free 128 ≡ true
unfolding digits
all_are_free = refl

numbered_free : (b : ℕ) → is_ascii_control b ≡ true → list_all is_no_markup (numbered b) ≡ true
numbered_free b h = let small : b < 128 = grind (arith, nat_tests) in below is_free b 128 small all_are_free

byte_free : (b : ℕ) → list_all is_no_markup (escaped_byte b) ≡ true
byte_free b = by (b == 60) (b == 62) (b == 38) (b == 34) (is_ascii_control b) refl refl refl refl refl
  where
    by : (p q r s u : Bool) → (b == 60) ≡ p → (b == 62) ≡ q → (b == 38) ≡ r → (b == 34) ≡ s → is_ascii_control b ≡ u
        → list_all is_no_markup (cond p (codes "&lt;") (cond q (codes "&gt;") (cond r (codes "&amp;") (cond s (codes "&quot;") (cond u (numbered b) (b ∷ [])))))) ≡ true
    by true q r s u e f g h i = refl
    by false true r s u e f g h i = refl
    by false false true s u e f g h i = refl
    by false false false true u e f g h i = refl
    by false false false false true e f g h i = numbered_free b i
    by false false false false false e f g h i = rw (e, f, h) refl

pub no-markup : (text : List ℕ) → list_all is_no_markup (escaped text) ≡ true
no-markup [] = refl
no-markup (b ∷ bs) = list_all-append is_no_markup (escaped_byte b) (escaped bs) ∙ ap₂ (λ (x y : Bool). x && y) (byte_free b) (no-markup bs)
