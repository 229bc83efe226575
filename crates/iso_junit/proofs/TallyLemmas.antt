-- The counts of testcases, one by one.
use Rattle.std.proofs.Common.{◌≡◌, ◌<◌, ◌≤◌, ℕ, suc, ◌+◌, List, [], ◌∷◌, ◌++◌, length, min, Option, None, Some, Bool, true, false, cond, filter, refl, ap, ◌∙◌, arith, append-nil, length-append}
use Rattle.std.proofs.lemmas.List.Concat.{flat_map-append}
use Rattle.std.proofs.lemmas.List.Elements.{filter-append}
use Rattle.std.proofs.lemmas.List.Sums.{sum_by-append}
use Rattle.std.specs.List.{sum}
use Rattle.iso_failures.specs.Nodes.{was_skipped}
use Rattle.iso_model.specs.declared.outcome.Verdict.{Verdict}
use Rattle.iso_junit.specs.Runs.{RunView, time}
use Rattle.iso_junit.specs.Tallies.{how_many, is_error, is_fail, measured, tally, times_of}
use Rattle.iso_junit.specs.TallySteps.{AreBelow, added, plus, with_case}
use Rattle.iso_junit.specs.Times.{greatest, time_of}
use Rattle.iso_junit.specs.declared.tally.Tally.{Tally}

clamped : (s t g : ℕ) → min (s + t) g ≡ min (min s g + t) g
clamped s t g = grind arith

-- a sum of times with one more
added-is : (ts : List ℕ) (t : Option ℕ) → time_of (ts ++ (measured t ++ [])) ≡ added (time_of ts) t
added-is ts None = ap time_of (append-nil ts)
added-is [] (Some t) = ap (λ (s : ℕ). Some (min s greatest)) (omega arith)
added-is (s ∷ ss) (Some t) =
    let all = sum_by-append (λ (x : ℕ). x) (s ∷ ss) (t ∷ []) in
    let more : sum ((s ∷ ss) ++ (t ∷ [])) ≡ sum (s ∷ ss) + t = omega arith in
    ap (λ (n : ℕ). Some (min n greatest)) more ∙ ap Some (clamped (sum (s ∷ ss)) t greatest)

module _ (r : RunView) where
  push_by : (ns : List ℕ) (n : ℕ) (b : Bool) → length (ns ++ cond b (n ∷ []) []) ≡ plus b (length ns)
  push_by ns n true = length-append ns (n ∷ [])
  push_by ns n false = ap length (append-nil ns)

  many-push : (such : Verdict → Bool) (cases : List ℕ) (n : ℕ) → how_many r such (cases ++ n ∷ []) ≡ plus (such (r.outcome n).verdict) (how_many r such cases)
  many-push such cases n =
      let passes : ℕ → Bool = λ (m : ℕ). such (r.outcome m).verdict in
      ap length (filter-append passes cases (n ∷ [])) ∙ push_by (filter passes cases) n (passes n)

  abbrev make : (tests failures errors skipped : ℕ) → Option ℕ → Tally
  make tests failures errors skipped time = record { tests = tests; failures = failures; errors = errors; skipped = skipped; time = time }

  same : {a b c d a' b' c' d' : ℕ} {t t' : Option ℕ} → a ≡ a' → b ≡ b' → c ≡ c' → d ≡ d' → t ≡ t' → make a b c d t ≡ make a' b' c' d' t'
  same h i j k l = rw (h, i, j, k, l) refl

  -- with one more
  pub tally-push : (cases : List ℕ) (n : ℕ) → tally r (cases ++ n ∷ []) ≡ with_case (r.outcome n).verdict (time r n) (tally r cases)
  tally-push cases n =
      same (length-append cases (n ∷ [])) (many-push is_fail cases n) (many-push is_error cases n) (many-push was_skipped cases n)
      (ap time_of (flat_map-append (λ m. measured (time r m)) cases (n ∷ [])) ∙ added-is (times_of r cases) (time r n))

  pub few : (p : ℕ → Bool) (ns : List ℕ) → length (filter p ns) ≤ length ns
  few p [] = omega arith
  few p (n ∷ ns) = by (p n) (few p ns)
    where
      by : (b : Bool) → length (filter p ns) ≤ length ns → length (cond b (n ∷ filter p ns) (filter p ns)) ≤ suc (length ns)
      by true h = omega arith
      by false h = omega arith

  -- none is greater than the number of the testcases
  pub tally-small : (cases : List ℕ) (most : ℕ) → length cases < most → AreBelow most (tally r cases)
  tally-small cases most h = record { tests = h; failures = small is_fail; errors = small is_error; skipped = small was_skipped }
    where
      small : (such : Verdict → Bool) → how_many r such cases < most
      small such = let low = few (λ m. such (r.outcome m).verdict) cases in omega arith
