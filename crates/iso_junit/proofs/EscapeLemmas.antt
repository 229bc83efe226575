-- An escaped text, from one special byte to the next.
use Rattle.std.proofs.Common.{◌≡◌, ℕ, suc, ◌<◌, ◌≤◌, List, [], ◌∷◌, ◌++◌, length, get_or, take, drop, Bool, true, false, ◌||◌, ◌==◌, cond, refl, ap₂, true≢false, arith}
use Rattle.std.proofs.lemmas.List.Concat.{flat_map-append}
use Rattle.std.specs.Char.{is_ascii_control}
use Rattle.iso_junit.specs.Escapes.{escaped, escaped_byte, is_special, plain_len}

neither : (a b : Bool) → (a || b) ≡ false → (a ≡ false) × (b ≡ false)
neither true b h = absurd (true≢false h)
neither false b h = (refl, h)

-- a byte that isn't special stands as it is
pub plain-byte : (b : ℕ) → is_special b ≡ false → escaped_byte b ≡ b ∷ []
plain-byte b h =
    let less = neither (b == 60) (b == 62 || (b == 38 || (b == 34 || is_ascii_control b))) h in
    let greater = neither (b == 62) (b == 38 || (b == 34 || is_ascii_control b)) less.1 in
    let ampersand = neither (b == 38) (b == 34 || is_ascii_control b) greater.1 in
    let quote = neither (b == 34) (is_ascii_control b) ampersand.1 in
    rw (less.0, greater.0, ampersand.0, quote.0, quote.1) refl

-- a text without a special byte stays as it is
pub escaped-plain : (t : List ℕ) → length t ≤ plain_len t → escaped t ≡ t
escaped-plain [] h = refl
escaped-plain (b ∷ bs) h = by (is_special b) refl h (λ k. escaped-plain bs k)
  where
    by : (x : Bool) → is_special b ≡ x → suc (length bs) ≤ cond x 0 (suc (plain_len bs)) → (length bs ≤ plain_len bs → escaped bs ≡ bs) → escaped (b ∷ bs) ≡ b ∷ bs
    by true e k next = absurd (omega arith)
    by false e k next = ap₂ (λ (xs ys : List ℕ). xs ++ ys) (plain-byte b e) (next (omega arith))

-- the bytes before a special byte, the byte, and the rest
pub escaped-next : (n : ℕ) (t : List ℕ) → n ≡ plain_len t → n < length t
    → escaped t ≡ take n t ++ (escaped_byte (get_or (drop n t) 0 0) ++ escaped (drop 1 (drop n t)))
escaped-next n [] e h = absurd (omega arith)
escaped-next n (b ∷ bs) e h = by (is_special b) refl e (λ less. escaped-next (plain_len bs) bs refl less)
  where
    by : (x : Bool) → is_special b ≡ x → n ≡ cond x 0 (suc (plain_len bs))
        → (plain_len bs < length bs → escaped bs ≡ take (plain_len bs) bs ++ (escaped_byte (get_or (drop (plain_len bs) bs) 0 0) ++ escaped (drop 1 (drop (plain_len bs) bs))))
        → escaped (b ∷ bs) ≡ take n (b ∷ bs) ++ (escaped_byte (get_or (drop n (b ∷ bs)) 0 0) ++ escaped (drop 1 (drop n (b ∷ bs))))
    by true i k next = rw k refl
    by false i k next =
        let less : plain_len bs < length bs = omega arith in
        rw k (ap₂ (λ (xs ys : List ℕ). xs ++ ys) (plain-byte b i) (next less))

-- two texts, one after the other
pub escaped-append : (s t : List ℕ) → escaped (s ++ t) ≡ escaped s ++ escaped t
escaped-append s t = flat_map-append escaped_byte s t
