-- The lowest bit of a word from one on, and of a set the lowest number.
use Rattle.std.proofs.Common.{◌≡◌, ◌≢◌, ℕ, ◌+◌, ◌-◌, ◌/◌, ◌%◌, ◌^◌, ◌<◌, ◌≤◌, ◌==◌, true, false, sym, ap, ◌∙◌, inl, inr, arith, w64}
use Rattle.std.proofs.Math.Nat.{div-div-eq-div-mul, div-le_self}
use Rattle.std.proofs.lemmas.Bool.{cases_lt}
use Rattle.std.proofs.lemmas.Nat.{pow-add}
use Rattle.std.proofs.lemmas.Nat.Bits.{bit_at-trailing_zeros, bit_at_above}
use Rattle.std.specs.Int.{bit_at, trailing_zeros}
use Rattle.iso_desk.proofs.BitLemmas.{bit_none}
use Rattle.iso_desk.specs.Marking.{bit}

-- a bit of a word that is shifted
shifted : (w s t : ℕ) → bit_at (w / 2 ^ s) t ≡ bit_at w (s + t)
shifted w s t = ap (λ (n : ℕ). n % 2) (div-div-eq-div-mul w (2 ^ s) (2 ^ t) ∙ ap (λ (n : ℕ). w / n) (sym (pow-add 2 s t)))

above : (s t : ℕ) → s ≤ t → s + (t - s) ≡ t
above s t h = omega (arith, h)

same-bit : (v w s t : ℕ) → bit_at v s ≡ bit_at w t → bit v s ≡ bit w t
unfolding bit
same-bit v w s t e = ap (λ (n : ℕ). n == 1) e

-- a word without a bit from one on
pub none-from : (w s : ℕ) → w / 2 ^ s ≡ 0 → (t : ℕ) → s ≤ t → bit w t ≡ false
none-from w s e t h =
    let at : bit_at w t ≡ bit_at 0 (t - s) = ap (bit_at w) (sym (above s t h)) ∙ sym (shifted w s (t - s)) ∙ ap (λ (n : ℕ). bit_at n (t - s)) e in
    same-bit w 0 t (t - s) at ∙ bit_none (t - s)

bit-by : (w t n : ℕ) → bit_at w t ≡ n → bit w t ≡ (n == 1)
unfolding bit
bit-by w t n e = ap (λ (m : ℕ). m == 1) e

pub record IsLowest (w s b : ℕ) : Type 0 where
  pub from : s ≤ b
  pub within : b < 64
  pub is : bit w b ≡ true
  pub none : (t : ℕ) → s ≤ t → t < b → bit w t ≡ false

-- the lowest bit of a word from one on
pub lowest-from : (w s : ℕ) → w < 2 ^ 64 → w / 2 ^ s ≢ 0 → IsLowest w s (s + trailing_zeros w64 (w / 2 ^ s))
lowest-from w s h some =
    let rest = w / 2 ^ s in
    let less = div-le_self w (2 ^ s) in
    let z = bit_at-trailing_zeros w64 rest (omega (arith, some)) (omega (arith, h, less)) in
    let b = s + trailing_zeros w64 rest in
    let one : bit_at w b ≡ 1 = sym (shifted w s (trailing_zeros w64 rest)) ∙ z.1 in
    record {
      from = omega arith;
      within = elim (cases_lt b 64) [
        | inl below ↦ below
        | inr past ↦ let wrong : 1 ≡ 0 = sym one ∙ bit_at_above w 64 b h past in absurd (cc)
      ];
      is = bit-by w b 1 one;
      none = λ t f l. bit-by w t 0 (ap (bit_at w) (sym (above s t f)) ∙ sym (shifted w s (t - s)) ∙ z.2 (t - s) (omega (arith, f, l)));
    }
