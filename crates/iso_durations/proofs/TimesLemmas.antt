-- The nodes that were measured, one by one.
use Rattle.std.proofs.Common.{◌≡◌, ◌<◌, ◌≤◌, ℕ, zero, suc, ◌+◌, List, [], ◌∷◌, ◌++◌, length, min, Option, None, Some, is_some, unwrap_or, Bool, true, false, ◌||◌, not, cond, filter, refl, sym, ap, ◌∙◌, arith, add-one, append-nil, length-append}
use Rattle.std.proofs.lemmas.Bool.Decides.{nat_tests}
use Rattle.std.proofs.lemmas.List.Elements.{All-nil, All-push, filter-append}
use Rattle.std.proofs.lemmas.List.Folds.{list_any-append}
use Rattle.std.proofs.lemmas.List.Sums.{sum_by-append}
use Rattle.std.specs.Bool.{◌==◌}
use Rattle.std.specs.List.{All, sum_by}
use Rattle.iso_plan.proofs.NumberLemmas.{number-small, those-next, those-skip}
use Rattle.iso_plan.specs.KeptNodes.{those_below}
use Rattle.iso_plan.specs.Tree.{Row}
use Rattle.iso_durations.specs.Orders.{is_in}
use Rattle.iso_durations.specs.Tallies.{greatest, is_a_test, tally, with_node}
use Rattle.iso_durations.specs.Times.{is_measured, micros, time}
use Rattle.iso_durations.specs.declared.tally.Tally.{Tally}
use Rattle.iso_durations.proofs.OrderLemmas.{Differ, neither-first, neither-second}

-- numbers below one that pass are so few, below it, and differ
module _ (p : ℕ → Bool) where
  those-by : (P : List ℕ → Type 0) (n : ℕ) (b : Bool) → P (those_below p n ++ n ∷ []) → P (those_below p n) → P (cond b (those_below p n ++ n ∷ []) (those_below p n))
  those-by P n true h k = h
  those-by P n false h k = k

  pub those-below : (n m : ℕ) → n ≤ m → All (λ k. k < m) (those_below p n)
  those-below zero m h = All-nil (λ k. k < m)
  those-below (suc n) m h =
      let rest = those-below n m (omega arith) in
      those-by (All (λ k. k < m)) n (p n) (All-push (λ k. k < m) (those_below p n) n rest (omega arith)) rest

  pub those-pass : (n : ℕ) → All (λ k. p k ≡ true) (those_below p n)
  those-pass zero = All-nil (λ k. p k ≡ true)
  those-pass (suc n) = by (p n) refl (those-pass n)
    where
      by : (b : Bool) → p n ≡ b → All (λ k. p k ≡ true) (those_below p n) → All (λ k. p k ≡ true) (cond b (those_below p n ++ n ∷ []) (those_below p n))
      by true e rest = All-push (λ k. p k ≡ true) (those_below p n) n rest e
      by false e rest = rest

  pub those-all : (n : ℕ) → All (λ k. (p k ≡ true) × (k < n)) (those_below p n)
  those-all n = λ k d h. (those-pass n k d h, those-below n n (omega arith) k d h)

  later-differ : (k n : ℕ) → n < k → (n == k) ≡ false
  later-differ k n h = grind (arith, nat_tests)

  not-later : (n k : ℕ) → n ≤ k → is_in (those_below p n) k ≡ false
  not-later zero k h = refl
  not-later (suc n) k h =
      let rest = not-later n k (omega arith) in
      let less : n < k = omega arith in
      let pushed : is_in (those_below p n ++ n ∷ []) k ≡ false =
      list_any-append (λ (m : ℕ). m == k) (those_below p n) (n ∷ []) ∙ ap (λ (t : Bool). t || ((n == k) || false)) rest ∙ ap (λ (t : Bool). t || false) (later-differ k n less) in
      those-by (λ (ns : List ℕ). is_in ns k ≡ false) n (p n) pushed rest

  differ-push : (ns : List ℕ) (k : ℕ) → Differ ns → is_in ns k ≡ false → Differ (ns ++ k ∷ [])
  differ-push [] k d h = (refl, tt)
  differ-push (n ∷ ns) k d h =
      let apart : (k == n) ≡ false = turned (n == k) (neither-first (n == k) _ h) in
      let first : is_in (ns ++ k ∷ []) n ≡ false =
      list_any-append (λ (m : ℕ). m == n) ns (k ∷ []) ∙ ap (λ (t : Bool). t || ((k == n) || false)) d.0 ∙ ap (λ (t : Bool). t || false) apart in
      (first, differ-push ns k d.1 (neither-second (n == k) _ h))
    where
      turned : (b : Bool) → (n == k) ≡ false → (k == n) ≡ false
      turned b e = grind (arith, nat_tests)

  pub those-differ : (n : ℕ) → Differ (those_below p n)
  those-differ zero = tt
  those-differ (suc n) =
      let rest = those-differ n in
      those-by Differ n (p n) (differ-push (those_below p n) n rest (not-later n n (omega arith))) rest

-- the nodes below one that were measured, with that one
module _ (times : List (Option ℕ)) where
  abbrev pub so_far : ℕ → List ℕ
  so_far n = those_below (is_measured times) n

  passes : (n t : ℕ) → 0 < n → Some t ≡ time times n → is_measured times n ≡ true
  passes zero t h e = absurd (not_below h)
    where
      not_below : 0 < 0 → ⊥
      not_below k = omega arith
  passes (suc n) t h e = ap is_some (sym e)

  fails : (n : ℕ) → None ≡ time times n → is_measured times n ≡ false
  fails zero e = refl
  fails (suc n) e = ap is_some (sym e)

  pub next : (n t : ℕ) → 0 < n → Some t ≡ time times n → so_far (n + 1) ≡ so_far n ++ n ∷ []
  next n t h e = ap so_far (add-one n) ∙ those-next (is_measured times) n (passes n t h e)

  pub skip : (n : ℕ) → None ≡ time times n → so_far (n + 1) ≡ so_far n
  skip n e = ap so_far (add-one n) ∙ those-skip (is_measured times) n (fails n e)

  pub few : (n : ℕ) → length (so_far n) ≤ n
  few n = number-small (is_measured times) n

-- the counts with a node more
module _ (tree : List Row) (times : List (Option ℕ)) where
  many_by : (p : ℕ → Bool) (ns : List ℕ) (n : ℕ) (b : Bool) → p n ≡ b → length (filter p (ns ++ n ∷ [])) ≡ cond b (length (filter p ns) + 1) (length (filter p ns))
  many_by p ns n true e =
      ap length (filter-append p ns (n ∷ []) ∙ ap (λ (t : Bool). filter p ns ++ cond t (n ∷ []) []) e) ∙ length-append (filter p ns) (n ∷ [])
  many_by p ns n false e =
      ap length (filter-append p ns (n ∷ []) ∙ ap (λ (t : Bool). filter p ns ++ cond t (n ∷ []) []) e ∙ append-nil (filter p ns))

  clamped : (s t g : ℕ) → min (s + t) g ≡ min (min s g + t) g
  clamped s t g = grind arith

  sum-push : (ns : List ℕ) (n : ℕ) → min (sum_by (micros times) (ns ++ n ∷ [])) greatest ≡ min (min (sum_by (micros times) ns) greatest + micros times n) greatest
  sum-push ns n =
      let all = sum_by-append (micros times) ns (n ∷ []) in
      let more : sum_by (micros times) (ns ++ n ∷ []) ≡ sum_by (micros times) ns + micros times n = omega arith in
      ap (λ (k : ℕ). min k greatest) more ∙ clamped (sum_by (micros times) ns) (micros times n) greatest

  abbrev make : (tests classes micros : ℕ) → Tally
  make tests classes micros = record { tests = tests; classes = classes; micros = micros }

  same : {a b c a' b' c' : ℕ} → a ≡ a' → b ≡ b' → c ≡ c' → make a b c ≡ make a' b' c'
  same h i j = rw (h, i, j) refl

  tally-by : (ns : List ℕ) (n : ℕ) (b : Bool) → is_a_test tree n ≡ b → tally tree times (ns ++ n ∷ []) ≡ with_node b (micros times n) (tally tree times ns)
  tally-by ns n true e = same (many_by (is_a_test tree) ns n true e) (many_by (λ m. not (is_a_test tree m)) ns n false (ap not e)) (sum-push ns n)
  tally-by ns n false e = same (many_by (is_a_test tree) ns n false e) (many_by (λ m. not (is_a_test tree m)) ns n true (ap not e)) (sum-push ns n)

  pub tally-next : (ns : List ℕ) (n t : ℕ) (b : Bool) (all : Tally) → all ≡ tally tree times ns → b ≡ is_a_test tree n → t ≡ micros times n
      → with_node b t all ≡ tally tree times (ns ++ n ∷ [])
  tally-next ns n t b all e f h = rw (e, h) (sym (tally-by ns n b (sym f)))

  pub few-counted : (p : ℕ → Bool) (ns : List ℕ) → length (filter p ns) ≤ length ns
  few-counted p [] = omega arith
  few-counted p (n ∷ ns) = by (p n) (few-counted p ns)
    where
      by : (b : Bool) → length (filter p ns) ≤ length ns → length (cond b (n ∷ filter p ns) (filter p ns)) ≤ suc (length ns)
      by true h = omega arith
      by false h = omega arith

  pub counts-small : (ns : List ℕ) (most : ℕ) (all : Tally) → all ≡ tally tree times ns → length ns < most → (all.tests < most) × (all.classes < most)
  counts-small ns most all e h =
      let tests = few-counted (is_a_test tree) ns in
      let classes = few-counted (λ m. not (is_a_test tree m)) ns in
      let same_tests = ap (λ (t : Tally). t.tests) e in
      let same_classes = ap (λ (t : Tally). t.classes) e in
      (omega arith, omega arith)

-- a time that was measured, as a number
pub micros-is : (times : List (Option ℕ)) (n t : ℕ) → Some t ≡ time times n → t ≡ micros times n
micros-is times n t e = ap (λ (o : Option ℕ). unwrap_or o 0) e
