-- The lowest number that passes a test.
use Rattle.std.proofs.Common.{◌≡◌, ℕ, zero, suc, ◌<◌, Bool, true, false, cond, Option, Some, None, refl, sym, ap, ◌∙◌, arith}
use Rattle.std.specs.Option.{option_or}
use Rattle.iso_isolation.specs.Refusals.{lowest_below}
use Rattle.iso_isolation.proofs.Changes.{none_below}

-- it is below the bound and passes, and each lower one fails
pub record Lowest (n : ℕ) (test : ℕ → Bool) (m : ℕ) : Type 0 where
  pub inside : m < n
  pub passes : test m ≡ true
  pub first : (i : ℕ) → i < m → test i ≡ false

here : (n m : ℕ) (test : ℕ → Bool) → lowest_below n test ≡ None → (b : Bool) → test n ≡ b → cond b (Some n) None ≡ Some m → Lowest (suc n) test m
here n m test none true t e =
    let same : n ≡ m = cc in
    record { inside = omega arith; passes = ap test (sym same) ∙ t; first = λ i lt. none_below n test none i (omega arith) }
here n m test none false t e = absurd cc

lower : (n m : ℕ) (test : ℕ → Bool) → Lowest n test m → Lowest (suc n) test m
lower n m test l = let inside = l.inside in record { inside = omega arith; passes = l.passes; first = l.first }

pub lowest : (n : ℕ) (test : ℕ → Bool) (m : ℕ) → lowest_below n test ≡ Some m → Lowest n test m
lowest zero test m e = absurd cc
lowest (suc n) test m e = by (lowest_below n test) refl (λ k found. lowest n test k found) e
  where
    by : (o : Option ℕ) → lowest_below n test ≡ o → ((k : ℕ) → lowest_below n test ≡ Some k → Lowest n test k)
        → option_or o (cond (test n) (Some n) None) ≡ Some m → Lowest (suc n) test m
    by (Some k) found earlier e = let same : k ≡ m = cc in lower n m test (earlier m (found ∙ ap Some same))
    by None none earlier e = here n m test none (test n) refl e

-- where each number fails, none is found
pub none_found : (n : ℕ) (test : ℕ → Bool) → ((i : ℕ) → i < n → test i ≡ false) → lowest_below n test ≡ None
none_found zero test f = refl
none_found (suc n) test f =
    ap (λ (o : Option ℕ). option_or o (cond (test n) (Some n) None)) (none_found n test (λ i lt. f i (omega arith)))
    ∙ ap (λ (b : Bool). cond b (Some n) None) (f n (omega arith))
