-- What is so of the nodes that are listed.
use Rattle.std.proofs.Common.{◌≡◌, ◌<◌, ℕ, zero, suc, List, [], ◌∷◌, length, map, min, take, Bool, true, false, ◌||◌, cond, refl, sym, ap, ◌∙◌, arith, true≢false}
use Rattle.std.proofs.lemmas.List.{length-take, take-map}
use Rattle.std.proofs.lemmas.List.Elements.{All-cons, All-head, All-nil, All-tail, All-take}
use Rattle.std.proofs.lemmas.List.Kept.{AllPairs-cons}
use Rattle.std.proofs.lemmas.List.Sums.{AllPass-from_list_all, list_all-from_AllPass}
use Rattle.std.specs.Bool.{◌==◌}
use Rattle.std.specs.List.{All, AllPairs, list_all}
use Rattle.iso_durations.specs.Orders.{first_of, is_before, is_in, placed, slowest_first}
use Rattle.iso_durations.proofs.OrderLemmas.{Differ, Ranked, all-at, both-are, both-first, both-second, neither-first, neither-second, ranked-one, same_number, slowest-in, slowest-ranked}

-- what is true of all is true of the first
all-taken : (p : ℕ → Bool) (k : ℕ) (ns : List ℕ) → list_all p ns ≡ true → list_all p (take k ns) ≡ true
all-taken p zero ns h = refl
all-taken p (suc k) [] h = refl
all-taken p (suc k) (n ∷ ns) h = both-are (p n) (list_all p (take k ns)) (both-first (p n) _ h) (all-taken p k ns (both-second (p n) _ h))

-- a number more
length-placed : (micros : ℕ → ℕ) (n : ℕ) (ns : List ℕ) → length (placed micros n ns) ≡ suc (length ns)
length-placed micros n [] = refl
length-placed micros n (m ∷ ms) = by (is_before micros n m) (length-placed micros n ms)
  where
    by : (b : Bool) → length (placed micros n ms) ≡ suc (length ms) → length (cond b (n ∷ m ∷ ms) (m ∷ placed micros n ms)) ≡ suc (suc (length ms))
    by true h = refl
    by false h = ap suc h

length-slowest : (micros : ℕ → ℕ) (ns : List ℕ) → length (slowest_first micros ns) ≡ length ns
length-slowest micros [] = refl
length-slowest micros (n ∷ ns) = length-placed micros n (slowest_first micros ns) ∙ ap suc (length-slowest micros ns)

-- what is so of some nodes is so of them in order
placed-every : (P : ℕ → Type 0) (micros : ℕ → ℕ) (n : ℕ) (ns : List ℕ) → P n → All P ns → All P (placed micros n ns)
placed-every P micros n [] p h = All-cons P n [] p h
placed-every P micros n (m ∷ ms) p h = by (is_before micros n m) (placed-every P micros n ms p (All-tail P m ms h))
  where
    by : (b : Bool) → All P (placed micros n ms) → All P (cond b (n ∷ m ∷ ms) (m ∷ placed micros n ms))
    by true rest = All-cons P n (m ∷ ms) p h
    by false rest = All-cons P m (placed micros n ms) (All-head P m ms h) rest

pub slowest-every : (P : ℕ → Type 0) (micros : ℕ → ℕ) (ns : List ℕ) → All P ns → All P (slowest_first micros ns)
slowest-every P micros [] h = All-nil P
slowest-every P micros (n ∷ ns) h = placed-every P micros n (slowest_first micros ns) (All-head P n ns h) (slowest-every P micros ns (All-tail P n ns h))

-- so many of the first are some of all
pub first-every : {A : Type 0} (P : A → Type 0) (most : ℕ) (xs : List A) → All P xs → All P (first_of most xs)
first-every P most xs h = by (most == 0)
  where
    by : (b : Bool) → All P (cond b xs (take most xs))
    by true = h
    by false = All-take P most xs h

module _ (micros : ℕ → ℕ) where
  abbrev Before : ℕ → ℕ → Type 0
  Before m n = is_before micros m n ≡ true

  ranked-taken : (k : ℕ) (ns : List ℕ) → Ranked micros ns → Ranked micros (take k ns)
  ranked-taken zero ns r = tt
  ranked-taken (suc k) [] r = tt
  ranked-taken (suc k) (n ∷ ns) r = (all-taken (is_before micros n) k ns r.0, ranked-taken k ns r.1)

  ranked-pairs : (ns : List ℕ) → Ranked micros ns → AllPairs Before ns
  ranked-pairs [] r = λ i j d h k. absurd (not_below k)
    where
      not_below : {j : ℕ} → j < 0 → ⊥
      not_below h = omega arith
  ranked-pairs (n ∷ ns) r = AllPairs-cons Before n ns (AllPass-from_list_all (is_before micros n) ns r.0) (ranked-pairs ns r.1)

  -- the listed ones stand in order
  pub listed-pairs : (most : ℕ) (ns : List ℕ) → Differ ns → AllPairs Before (first_of most (slowest_first micros ns))
  listed-pairs most ns d = by (most == 0)
    where
      ranked : Ranked micros (slowest_first micros ns)
      ranked = slowest-ranked micros ns d

      by : (b : Bool) → AllPairs Before (cond b (slowest_first micros ns) (take most (slowest_first micros ns)))
      by true = ranked-pairs (slowest_first micros ns) ranked
      by false = ranked-pairs (take most (slowest_first micros ns)) (ranked-taken most (slowest_first micros ns) ranked)

  -- what is left out stands behind what isn't
  taken-before : (k : ℕ) (ns : List ℕ) (m n : ℕ) → Ranked micros ns → is_in (take k ns) m ≡ true → is_in ns n ≡ true → is_in (take k ns) n ≡ false → Before m n
  taken-before zero ns m n r h i o = absurd (true≢false (sym h))
  taken-before (suc k) [] m n r h i o = absurd (true≢false (sym h))
  taken-before (suc k) (l ∷ ls) m n r h i o =
      by (l == m) refl (λ more. taken-before k ls m n r.1 more later (neither-second (l == n) _ o))
    where
      later : is_in ls n ≡ true
      later = sym (ap (λ (t : Bool). t || is_in ls n) (neither-first (l == n) _ o)) ∙ i

      by : (b : Bool) → (l == m) ≡ b → (is_in (take k ls) m ≡ true → Before m n) → Before m n
      by true e rest = ap (λ (x : ℕ). is_before micros x n) (sym (same_number l m e)) ∙ all-at micros l ls n r.0 later
      by false e rest = rest (sym (ap (λ (t : Bool). t || is_in (take k ls) m) e) ∙ h)

  pub left-out : (most : ℕ) (ns : List ℕ) (m n : ℕ) → Differ ns → is_in (first_of most (slowest_first micros ns)) m ≡ true
      → is_in ns n ≡ true → is_in (first_of most (slowest_first micros ns)) n ≡ false → Before m n
  left-out most ns m n d = by (most == 0)
    where
      by : (b : Bool) → is_in (cond b (slowest_first micros ns) (take most (slowest_first micros ns))) m ≡ true
          → is_in ns n ≡ true → is_in (cond b (slowest_first micros ns) (take most (slowest_first micros ns))) n ≡ false → Before m n
      by true h i o = absurd (true≢false (sym (slowest-in micros ns n ∙ i) ∙ o))
      by false h i o = taken-before most (slowest_first micros ns) m n (slowest-ranked micros ns d) h (slowest-in micros ns n ∙ i) o

  -- no other list has the same nodes in order
  pairs-ranked : (ns : List ℕ) → AllPairs Before ns → Ranked micros ns
  pairs-ranked [] p = tt
  pairs-ranked (n ∷ ns) p =
      (list_all-from_AllPass (is_before micros n) ns (λ k d h. p 0 (suc k) d (omega arith) (omega arith)), pairs-ranked ns (λ i j d h k. p (suc i) (suc j) d (omega arith) (omega arith)))

  pub only-one : (ms ns : List ℕ) → Differ ns → AllPairs Before ms → ((z : ℕ) → is_in ms z ≡ is_in ns z) → ms ≡ slowest_first micros ns
  only-one ms ns d p same =
      ranked-one micros ms (slowest_first micros ns) (pairs-ranked ms p) (slowest-ranked micros ns d) (λ z. same z ∙ sym (slowest-in micros ns z))

-- how many are listed
pub length-listed : (micros : ℕ → ℕ) (most : ℕ) (ns : List ℕ) → length (first_of most (slowest_first micros ns)) ≡ cond (most == 0) (length ns) (min most (length ns))
length-listed micros most ns = by (most == 0)
  where
    by : (b : Bool) → length (cond b (slowest_first micros ns) (take most (slowest_first micros ns))) ≡ cond b (length ns) (min most (length ns))
    by true = length-slowest micros ns
    by false = length-take most (slowest_first micros ns) ∙ ap (min most) (length-slowest micros ns)

pub first-map : {A B : Type 0} (f : A → B) (most : ℕ) (xs : List A) → first_of most (map f xs) ≡ map f (first_of most xs)
first-map f most xs = by (most == 0)
  where
    by : (b : Bool) → cond b (map f xs) (take most (map f xs)) ≡ map f (cond b xs (take most xs))
    by true = refl
    by false = take-map f most xs
