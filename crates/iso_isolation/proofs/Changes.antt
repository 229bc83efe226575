-- A function with one place changed, and numbers below a bound.
use Rattle.std.proofs.Common.{◌≡◌, ℕ, zero, suc, ◌<◌, ◌≤◌, Bool, true, false, cond, Option, Some, None, ◌⊎◌, inl, inr, refl, sym, ap, subst, ◌∙◌, arith}
use Rattle.std.proofs.lemmas.Bool.{eqb-true, eq-eqb}
use Rattle.std.proofs.lemmas.Bool.Decides.{eqb_tells}
use Rattle.std.proofs.Math.Dec.{eqb}
use Rattle.std.specs.Option.{option_or}
use Rattle.iso_isolation.specs.States.{put}
use Rattle.iso_isolation.specs.Histories.{highest_below}
use Rattle.iso_isolation.specs.Refusals.{lowest_below}

pub equal_or_not : (m n : ℕ) → (m ≡ n) ⊎ (m ≡ n → ⊥)
equal_or_not m n = elim (eqb_tells m n) [ inl p ↦ inl p.1 | inr p ↦ inr p.1 ]

pub true_or_false : (b : Bool) → (b ≡ true) ⊎ (b ≡ false)
true_or_false true = inl refl
true_or_false false = inr refl

pub put_here : {A : Type 0} (n : ℕ) (a : A) (f : ℕ → A) → put n a f n ≡ a
put_here n a f = ap (λ b. cond b a (f n)) (eq-eqb n n refl)

elsewhere_by : {A : Type 0} (m n : ℕ) (a : A) (f : ℕ → A) (b : Bool) → eqb m n ≡ b → (m ≡ n → ⊥) → cond b a (f m) ≡ f m
elsewhere_by m n a f true e ne = absurd (ne (eqb-true m n e))
elsewhere_by m n a f false e ne = refl

pub put_elsewhere : {A : Type 0} (m n : ℕ) (a : A) (f : ℕ → A) → (m ≡ n → ⊥) → put n a f m ≡ f m
put_elsewhere m n a f ne = elsewhere_by m n a f (eqb m n) refl ne

-- what holds of the new value at its place, and of the old ones elsewhere
pub on_put : {A : Type 0} (P : ℕ → A → Type 0) (n : ℕ) (a : A) (f : ℕ → A) (m : ℕ) → P n a → ((m ≡ n → ⊥) → P m (f m)) → P m (put n a f m)
on_put P n a f m here there =
    elim (equal_or_not m n) [
      | inl e ↦ subst (λ (j : ℕ). P j (put n a f j)) (sym e) (subst (P n) (sym (put_here n a f)) here)
      | inr ne ↦ subst (P m) (sym (put_elsewhere m n a f ne)) (there ne)
    ]

-- what the new value doesn't change, stays
pub unmoved : {A C : Type 0} (P : A → C) (n : ℕ) (a : A) (f : ℕ → A) → P a ≡ P (f n) → (m : ℕ) → P (put n a f m) ≡ P (f m)
unmoved P n a f e m = on_put (λ (j : ℕ) (v : _). P v ≡ P (f j)) n a f m e (λ ne. refl)

or_none : {A : Type 0} (o q : Option A) → option_or o q ≡ None → (o ≡ None) × (q ≡ None)
or_none (Some a) q e = absurd cc
or_none None q e = (refl, e)

fails : (b : Bool) (n : ℕ) → cond b (Some n) None ≡ None → b ≡ false
fails true n e = absurd cc
fails false n e = refl

-- where no number below n passes a test, each fails it
pub none_below : (n : ℕ) (test : ℕ → Bool) → lowest_below n test ≡ None → (m : ℕ) → m < n → test m ≡ false
none_below zero test e m lt = absurd (omega arith)
none_below (suc n) test e m lt =
    let parts = or_none (lowest_below n test) (cond (test n) (Some n) None) e in
    elim (equal_or_not m n) [
      | inl here ↦ ap test here ∙ fails (test n) n parts.1
      | inr ne ↦ none_below n test parts.0 m (omega arith)
    ]

passes : (b : Bool) (n m : ℕ) → cond b (Some n) None ≡ Some m → (b ≡ true) × (n ≡ m)
passes true n m e = (refl, cc)
passes false n m e = absurd cc

some_by : (o q : Option ℕ) (m : ℕ) → option_or o q ≡ Some m → (o ≡ Some m) ⊎ (q ≡ Some m)
some_by (Some a) q m e = inl e
some_by None q m e = inr e

-- the lowest number that passes a test passes it
pub some_below : (n : ℕ) (test : ℕ → Bool) (m : ℕ) → lowest_below n test ≡ Some m → test m ≡ true
some_below zero test m e = absurd cc
some_below (suc n) test m e = elim (some_by (lowest_below n test) (cond (test n) (Some n) None) m e) [
  | inl lower ↦ some_below n test m lower
  | inr here ↦ let p = passes (test n) n m here in ap test (sym p.1) ∙ p.0
]

-- the highest number that passes a test passes it, and no other that does is higher
pub record Highest (n : ℕ) (test : ℕ → Bool) (m : ℕ) : Type 0 where
  pub passes : test m ≡ true
  pub last : (i : ℕ) → i < n → test i ≡ true → i ≤ m

highest_here : (n m : ℕ) (test : ℕ → Bool) → test n ≡ true → n ≡ m → Highest (suc n) test m
highest_here n m test t e = record { passes = ap test (sym e) ∙ t; last = λ i lt p. omega arith }

highest_there : (n m : ℕ) (test : ℕ → Bool) → test n ≡ false → Highest n test m → Highest (suc n) test m
highest_there n m test f h = record {
  passes = h.passes;
  last = λ i lt p. elim (equal_or_not i n) [
    | inl e ↦ let t : test n ≡ true = ap test (sym e) ∙ p in absurd cc
    | inr ne ↦ h.last i (omega arith) p
  ];
}

pub highest : (n : ℕ) (test : ℕ → Bool) (m : ℕ) → highest_below n test ≡ Some m → Highest n test m
highest zero test m e = absurd cc
highest (suc n) test m e = by (test n) refl (λ lower. highest n test m lower) e
  where
    by : (b : Bool) → test n ≡ b → (highest_below n test ≡ Some m → Highest n test m) → cond b (Some n) (highest_below n test) ≡ Some m
        → Highest (suc n) test m
    by true t lower e = highest_here n m test t cc
    by false f lower e = highest_there n m test f (lower e)

-- where no number below n is the highest that passes a test, each fails it
pub none_highest : (n : ℕ) (test : ℕ → Bool) → highest_below n test ≡ None → (m : ℕ) → m < n → test m ≡ false
none_highest zero test e m lt = absurd (omega arith)
none_highest (suc n) test e m lt = by (test n) refl (λ lower less. none_highest n test lower m less) e
  where
    by : (b : Bool) → test n ≡ b → (highest_below n test ≡ None → m < n → test m ≡ false) → cond b (Some n) (highest_below n test) ≡ None
        → test m ≡ false
    by true t lower e = absurd cc
    by false f lower e = elim (equal_or_not m n) [
      | inl here ↦ ap test here ∙ f
      | inr ne ↦ lower e (omega arith)
    ]
