-- An escaped text, from one byte that is escaped to the next.
use Rattle.std.proofs.Common.{◌≡◌, ℕ, suc, ◌<◌, ◌≤◌, List, [], ◌∷◌, ◌++◌, length, get_or, take, drop, Bool, true, false, cond, nat_eq, ◌||◌, refl, ap, arith}
use Rattle.iso_tap.specs.Escapes.{with_escapes, plain_len}

abbrev is_special : ℕ → ℕ → Bool
is_special other b = nat_eq b 92 || nat_eq b other

-- a text without such a byte stays as it is
pub with_escapes-plain : (other : ℕ) (t : List ℕ) → length t ≤ plain_len other t → with_escapes other t ≡ t
with_escapes-plain other [] h = refl
with_escapes-plain other (b ∷ bs) h =
    elim (is_special other b) as (λ x. suc (length bs) ≤ cond x 0 (suc (plain_len other bs)) → cond x (92 ∷ b ∷ with_escapes other bs) (b ∷ with_escapes other bs) ≡ b ∷ bs) [
      | true ↦ λ k. absurd (omega arith)
      | false ↦ λ k. ap (λ t. b ∷ t) (with_escapes-plain other bs (omega arith))
    ] h

-- the bytes before such a byte, the byte with its backslash, and the rest
pub with_escapes-next : (other n : ℕ) (t : List ℕ) → n ≡ plain_len other t → n < length t → with_escapes other t ≡ take n t ++ (92 ∷ get_or (drop n t) 0 0 ∷ with_escapes other (drop 1 (drop n t)))
with_escapes-next other n [] e h = absurd (omega arith)
with_escapes-next other n (b ∷ bs) e h =
    elim (is_special other b) as (λ x. n ≡ cond x 0 (suc (plain_len other bs))
    → cond x (92 ∷ b ∷ with_escapes other bs) (b ∷ with_escapes other bs) ≡ take n (b ∷ bs) ++ (92 ∷ get_or (drop n (b ∷ bs)) 0 0 ∷ with_escapes other (drop 1 (drop n (b ∷ bs))))) [
      | true ↦ λ k. rw k refl
      | false ↦ λ k. let less : plain_len other bs < length bs = omega arith in rw k (ap (λ t. b ∷ t) (with_escapes-next other (plain_len other bs) bs refl less))
    ] e
