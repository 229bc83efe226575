-- One bit of a word, and the marks of a set when one is set or cleared.
use Rattle.std.proofs.Common.{◌≡◌, ℕ, zero, suc, ◌-◌, ◌*◌, ◌/◌, ◌%◌, ◌^◌, ◌<◌, ◌≢◌, Bool, true, false, ◌||◌, ◌&&◌, ◌==◌, not, cond, List, length, get_or, replicate, set, min, max, sym, ap, ap₂, ◌∙◌, inl, inr, arith, refl, bit_and, bit_or, w64}
use Rattle.std.proofs.lemmas.Bool.{cases_eq}
use Rattle.std.proofs.lemmas.Bool.Decides.{Decides-eqb}
use Rattle.std.proofs.lemmas.List.{get_or-set_same, get_or-set_other}
use Rattle.std.proofs.lemmas.Nat.{and_le_l, or_lt}
use Rattle.std.proofs.lemmas.Nat.Bits.{bit_at-trailing_zeros, bit_at-lt, bit_at-zero, bit_at_and, bit_at_clear_other, bit_at_clear_same, bit_at_not, bit_at_or, bit_at_set_other, bit_at_set_same, shr_and_one}
use Rattle.std.specs.Int.{bit_at, bit_not, trailing_zeros}
use Rattle.iso_desk.specs.Marking.{bit, offers}

pub eq_true : (a b : ℕ) → a ≡ b → (a == b) ≡ true
eq_true a b e = (Decides-eqb a b).1 e

eq_false_by : (x : Bool) (P : Type 0) → (x ≡ true → P) → (P → ⊥) → x ≡ false
eq_false_by true P f differ = absurd (differ (f refl))
eq_false_by false P f differ = refl

pub eq_false : (a b : ℕ) → a ≢ b → (a == b) ≡ false
eq_false a b differ = eq_false_by (a == b) (a ≡ b) (Decides-eqb a b).0 differ

pub bit_set : (w at t : ℕ) → at < 64 → bit (bit_or w (1 * 2 ^ at % 2 ^ 64)) t ≡ cond (t == at) true (bit w t)
unfolding bit
bit_set w at t h =
    elim (cases_eq t at) [
      | inl e ↦
          ap (λ (k : ℕ). bit_at (bit_or w (1 * 2 ^ at % 2 ^ 64)) k == 1) e
          ∙ ap (λ (k : ℕ). k == 1) (bit_at_set_same w64 w at h)
          ∙ sym (ap (λ (b : Bool). cond b true (bit_at w t == 1)) (eq_true t at e))
      | inr o ↦
          ap (λ (k : ℕ). k == 1) (bit_at_set_other w64 w at h t o)
          ∙ sym (ap (λ (b : Bool). cond b true (bit_at w t == 1)) (eq_false t at o))
    ]

pub bit_clear : (w at t : ℕ) → at < 64 → t < 64 → bit (bit_and w (bit_not w64 (1 * 2 ^ at % 2 ^ 64))) t ≡ cond (t == at) false (bit w t)
unfolding bit
bit_clear w at t h k =
    elim (cases_eq t at) [
      | inl e ↦
          ap (λ (k : ℕ). bit_at (bit_and w (bit_not w64 (1 * 2 ^ at % 2 ^ 64))) k == 1) e
          ∙ ap (λ (k : ℕ). k == 1) (bit_at_clear_same w64 w at h)
          ∙ sym (ap (λ (b : Bool). cond b false (bit_at w t == 1)) (eq_true t at e))
      | inr o ↦
          ap (λ (k : ℕ). k == 1) (bit_at_clear_other w64 w at h t k o)
          ∙ sym (ap (λ (b : Bool). cond b false (bit_at w t == 1)) (eq_false t at o))
    ]

pub bit_read : (w at : ℕ) → (bit_and (w / 2 ^ at) 1 == 1) ≡ bit w at
unfolding bit
bit_read w at = ap (λ (k : ℕ). k == 1) (shr_and_one w at)

pub bit_none : (t : ℕ) → bit 0 t ≡ false
unfolding bit
bit_none t = ap (λ (k : ℕ). k == 1) (bit_at-zero t)

-- the marks of a set when the bit of one is written
pub set_has : (ws : List ℕ) (n k w : ℕ) (b : Bool) → n / 64 < length ws → ((t : ℕ) → t < 64 → bit w t ≡ cond (t == n % 64) b (bit (get_or ws (n / 64) 0) t))
    → bit (get_or (set ws (n / 64) w) (k / 64) 0) (k % 64) ≡ cond (k == n) b (bit (get_or ws (k / 64) 0) (k % 64))
set_has ws n k w b h f =
    elim (cases_eq (k / 64) (n / 64)) [
      | inl e ↦
          let low : k % 64 < 64 = omega arith in
          let here : bit (get_or (set ws (n / 64) w) (k / 64) 0) (k % 64) ≡ bit w (k % 64) =
          ap (λ (x : ℕ). bit x (k % 64)) (ap (λ (x : ℕ). get_or (set ws (n / 64) w) x 0) e ∙ get_or-set_same ws (n / 64) w 0 h)
          in
          let was : bit (get_or ws (n / 64) 0) (k % 64) ≡ bit (get_or ws (k / 64) 0) (k % 64) = ap (λ (x : ℕ). bit (get_or ws x 0) (k % 64)) (sym e) in
          elim (cases_eq k n) [
            | inl q ↦
                here ∙ f (k % 64) low ∙ ap (λ (x : Bool). cond x b (bit (get_or ws (n / 64) 0) (k % 64))) (eq_true (k % 64) (n % 64) (ap (λ (x : ℕ). x % 64) q))
                ∙ sym (ap (λ (x : Bool). cond x b (bit (get_or ws (k / 64) 0) (k % 64))) (eq_true k n q))
            | inr q ↦
                let other : k % 64 ≢ n % 64 = λ z. q (omega arith) in
                here ∙ f (k % 64) low ∙ ap (λ (x : Bool). cond x b (bit (get_or ws (n / 64) 0) (k % 64))) (eq_false (k % 64) (n % 64) other) ∙ was
                ∙ sym (ap (λ (x : Bool). cond x b (bit (get_or ws (k / 64) 0) (k % 64))) (eq_false k n q))
          ]
      | inr o ↦
          ap (λ (x : ℕ). bit x (k % 64)) (get_or-set_other ws (n / 64) (k / 64) w 0 o)
          ∙ sym (ap (λ (x : Bool). cond x b (bit (get_or ws (k / 64) 0) (k % 64))) (eq_false k n (λ q. o (ap (λ (x : ℕ). x / 64) q))))
    ]

-- what is a bit of both of two words, and of one of two
and_by : (a b : ℕ) → a < 2 → b < 2 → (min a (1 - b) == 1) ≡ ((a == 1) && not (b == 1))
and_by zero zero ha hb = refl
and_by zero (suc zero) ha hb = refl
and_by (suc zero) zero ha hb = refl
and_by (suc zero) (suc zero) ha hb = refl
and_by zero (suc (suc b)) ha hb = absurd (omega arith)
and_by (suc zero) (suc (suc b)) ha hb = absurd (omega arith)
and_by (suc (suc a)) b ha hb = absurd (omega arith)

or_by : (a b : ℕ) → a < 2 → b < 2 → (max a b == 1) ≡ ((a == 1) || (b == 1))
or_by zero zero ha hb = refl
or_by zero (suc zero) ha hb = refl
or_by (suc zero) zero ha hb = refl
or_by (suc zero) (suc zero) ha hb = refl
or_by zero (suc (suc b)) ha hb = absurd (omega arith)
or_by (suc zero) (suc (suc b)) ha hb = absurd (omega arith)
or_by (suc (suc a)) b ha hb = absurd (omega arith)

masked : (r x t : ℕ) → x < 2 ^ 64 → t < 64 → bit (bit_and r (bit_not w64 x)) t ≡ (bit r t && not (bit x t))
unfolding bit
masked r x t hx h =
    ap (λ (k : ℕ). k == 1) (bit_at_and r (bit_not w64 x) t ∙ ap (min (bit_at r t)) (bit_at_not w64 x t hx h))
    ∙ and_by (bit_at r t) (bit_at x t) (bit_at-lt r t) (bit_at-lt x t)

either : (a b t : ℕ) → bit (bit_or a b) t ≡ (bit a t || bit b t)
unfolding bit
either a b t = ap (λ (k : ℕ). k == 1) (bit_at_or a b t) ∙ or_by (bit_at a t) (bit_at b t) (bit_at-lt a t) (bit_at-lt b t)

pub offers-is : (r x w h t : ℕ) → x < 2 ^ 64 → h < 2 ^ 64 → t < 64 → bit (bit_or (bit_and r (bit_not w64 x)) (bit_and w (bit_not w64 h))) t ≡ offers r x w h t
offers-is r x w h t hx hh l = either (bit_and r (bit_not w64 x)) (bit_and w (bit_not w64 h)) t ∙ ap₂ (λ (a b : Bool). a || b) (masked r x t hx l) (masked w h t hh l)

-- a list of equal elements has this element everywhere
pub everywhere : {X : Type 0} (n m : ℕ) (d : X) → get_or (replicate n d) m d ≡ d
everywhere zero m d = refl
everywhere (suc n) zero d = refl
everywhere (suc n) (suc m) d = everywhere n m d

is_zero : (w t : ℕ) → bit_at w t ≡ 0 → bit w t ≡ false
unfolding bit
is_zero w t e = ap (λ (k : ℕ). k == 1) e

is_one : (w t : ℕ) → bit_at w t ≡ 1 → bit w t ≡ true
unfolding bit
is_one w t e = ap (λ (k : ℕ). k == 1) e

-- the lowest bit of a word that isn't 0
lowest_bit : (o : ℕ) → o < 2 ^ 64 → o ≢ 0 → (trailing_zeros w64 o < 64) × (bit o (trailing_zeros w64 o) ≡ true) × ((t : ℕ) → t < trailing_zeros w64 o → bit o t ≡ false)
lowest_bit o h n =
    let some : 0 < o = omega arith in
    let z = bit_at-trailing_zeros w64 o some h in
    (z.0, is_one o (trailing_zeros w64 o) z.1, λ t l. is_zero o t (z.2 t l))

pub lowest_offer : (r x w h : ℕ) → r < 2 ^ 64 → x < 2 ^ 64 → w < 2 ^ 64 → h < 2 ^ 64 → bit_or (bit_and r (bit_not w64 x)) (bit_and w (bit_not w64 h)) ≢ 0
    → (trailing_zeros w64 (bit_or (bit_and r (bit_not w64 x)) (bit_and w (bit_not w64 h))) < 64)
    × (offers r x w h (trailing_zeros w64 (bit_or (bit_and r (bit_not w64 x)) (bit_and w (bit_not w64 h)))) ≡ true)
    × ((t : ℕ) → t < trailing_zeros w64 (bit_or (bit_and r (bit_not w64 x)) (bit_and w (bit_not w64 h))) → offers r x w h t ≡ false)
lowest_offer r x w h hr hx hw hh n =
    let o = bit_or (bit_and r (bit_not w64 x)) (bit_and w (bit_not w64 h)) in
    let a = and_le_l r (bit_not w64 x) in
    let b = and_le_l w (bit_not w64 h) in
    let ra : bit_and r (bit_not w64 x) < 2 ^ 64 = omega arith in
    let wb : bit_and w (bit_not w64 h) < 2 ^ 64 = omega arith in
    let z = lowest_bit o (or_lt 64 (bit_and r (bit_not w64 x)) (bit_and w (bit_not w64 h)) ra wb) n in (
      z.0,
      sym (offers-is r x w h (trailing_zeros w64 o) hx hh z.0) ∙ z.1,
      λ t l. let low : t < 64 = omega (arith, z.0, l) in sym (offers-is r x w h t hx hh low) ∙ z.2 t l,
    )

-- words that are all 0 have no mark
pub none_has : (ws : List ℕ) (n k : ℕ) → ws ≡ replicate n 0 → bit (get_or ws (k / 64) 0) (k % 64) ≡ false
none_has ws n k e =
    let word : get_or ws (k / 64) 0 ≡ 0 = ap (λ (us : List ℕ). get_or us (k / 64) 0) e ∙ everywhere n (k / 64) 0 in
    ap (λ (w : ℕ). bit w (k % 64)) word ∙ bit_none (k % 64)
