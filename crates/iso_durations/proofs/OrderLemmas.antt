-- A list in which each node stands before all later ones is the only such list of its nodes.
use Rattle.std.proofs.Common.{◌≡◌, ℕ, List, [], ◌∷◌, Bool, true, false, ◌&&◌, ◌||◌, nat_lt, cond, refl, sym, ap, ap₂, ◌∙◌, arith, true≢false}
use Rattle.std.proofs.lemmas.Bool.Decides.{nat_tests}
use Rattle.std.specs.Bool.{◌==◌}
use Rattle.std.specs.List.{list_all}
use Rattle.iso_durations.specs.Orders.{is_before, is_in, placed, slowest_first}

-- no number is in a list twice
abbrev pub Differ : List ℕ → Type 0
Differ [] = Unit {0}
Differ (n ∷ ns) = (is_in ns n ≡ false) × Differ ns

-- two facts from a test of both, and back
pub both-first : (a b : Bool) → (a && b) ≡ true → a ≡ true
both-first true b h = refl
both-first false b h = absurd (true≢false (sym h))

pub both-second : (a b : Bool) → (a && b) ≡ true → b ≡ true
both-second true b h = h
both-second false b h = absurd (true≢false (sym h))

pub both-are : (a b : Bool) → a ≡ true → b ≡ true → (a && b) ≡ true
both-are a b h k = rw (h, k) refl

-- of two tests that fail together each fails
pub neither-first : (a b : Bool) → (a || b) ≡ false → a ≡ false
neither-first true b h = h
neither-first false b h = refl

pub neither-second : (a b : Bool) → (a || b) ≡ false → b ≡ false
neither-second true b h = absurd (true≢false h)
neither-second false b h = h

-- the order, at two times and two numbers
abbrev before : (x m y n : ℕ) → Bool
before x m y n = nat_lt y x || (y == x && nat_lt m n)

numbers-in_turn : (x l y m z n : ℕ) → before x l y m ≡ true → before y m z n ≡ true → before x l z n ≡ true
numbers-in_turn x l y m z n h k = grind (arith, nat_tests)

numbers-one_way : (x m y n : ℕ) → before x m y n ≡ true → before y n x m ≡ false
numbers-one_way x m y n h = grind (arith, nat_tests)

numbers-either : (x m y n : ℕ) → before x m y n ≡ false → (m == n) ≡ false → before y n x m ≡ true
numbers-either x m y n h k = grind (arith, nat_tests)

pub same_number : (m n : ℕ) → (m == n) ≡ true → m ≡ n
same_number m n h = grind (arith, nat_tests)

itself : (n : ℕ) → (n == n) ≡ true
itself n = grind (arith, nat_tests)

turned : (m n : ℕ) → (m == n) ≡ false → (n == m) ≡ false
turned m n h = grind (arith, nat_tests)

or-turned : (a b c : Bool) → (b || (a || c)) ≡ (a || (b || c))
or-turned true true c = refl
or-turned true false c = refl
or-turned false true c = refl
or-turned false false c = refl

module _ (micros : ℕ → ℕ) where
  abbrev is : ℕ → ℕ → Bool
  is m n = is_before micros m n

  in_turn : (l m n : ℕ) → is l m ≡ true → is m n ≡ true → is l n ≡ true
  in_turn l m n h k = numbers-in_turn (micros l) l (micros m) m (micros n) n h k

  pub one_way : (m n : ℕ) → is m n ≡ true → is n m ≡ false
  one_way m n h = numbers-one_way (micros m) m (micros n) n h

  pub either : (m n : ℕ) → is m n ≡ false → (m == n) ≡ false → is n m ≡ true
  either m n h k = numbers-either (micros m) m (micros n) n h k

  -- each node stands before all later ones
  abbrev pub Ranked : List ℕ → Type 0
  Ranked [] = Unit {0}
  Ranked (n ∷ ns) = (list_all (is n) ns ≡ true) × Ranked ns

  -- what stands before the first stands before all
  before-all : (l m : ℕ) (ns : List ℕ) → is l m ≡ true → list_all (is m) ns ≡ true → list_all (is l) ns ≡ true
  before-all l m [] h k = refl
  before-all l m (n ∷ ns) h k =
      both-are (is l n) (list_all (is l) ns) (in_turn l m n h (both-first (is m n) _ k)) (before-all l m ns h (both-second (is m n) _ k))

  -- a list ranks where each node stands before the next
  abbrev pub Steps : List ℕ → Type 0
  Steps [] = Unit {0}
  Steps (n ∷ []) = Unit {0}
  Steps (m ∷ n ∷ ns) = (is m n ≡ true) × Steps (n ∷ ns)

  pub ranked-steps : (ns : List ℕ) → Steps ns → Ranked ns
  ranked-steps [] s = tt
  ranked-steps (n ∷ []) s = (refl, tt)
  ranked-steps (m ∷ n ∷ ns) s =
      let rest = ranked-steps (n ∷ ns) s.1 in
      (both-are (is m n) (list_all (is m) ns) s.0 (before-all m n ns s.0 rest.0), rest)

  -- what is true of a node and of a list is true of the list with it
  placed-all : (l n : ℕ) (ns : List ℕ) → is l n ≡ true → list_all (is l) ns ≡ true → list_all (is l) (placed micros n ns) ≡ true
  placed-all l n [] h k = both-are (is l n) true h refl
  placed-all l n (m ∷ ms) h k = by (is n m) (placed-all l n ms h (both-second (is l m) _ k))
    where
      by : (b : Bool) → list_all (is l) (placed micros n ms) ≡ true → list_all (is l) (cond b (n ∷ m ∷ ms) (m ∷ placed micros n ms)) ≡ true
      by true rest = both-are (is l n) (list_all (is l) (m ∷ ms)) h k
      by false rest = both-are (is l m) (list_all (is l) (placed micros n ms)) (both-first (is l m) _ k) rest

  -- a list that ranks does so with one more
  placed-ranked : (n : ℕ) (ns : List ℕ) → is_in ns n ≡ false → Ranked ns → Ranked (placed micros n ns)
  placed-ranked n [] d r = (refl, tt)
  placed-ranked n (m ∷ ms) d r = by (is n m) refl (placed-ranked n ms (neither-second (m == n) _ d) r.1)
    where
      by : (b : Bool) → is n m ≡ b → Ranked (placed micros n ms) → Ranked (cond b (n ∷ m ∷ ms) (m ∷ placed micros n ms))
      by true h rest = (both-are (is n m) (list_all (is n) ms) h (before-all n m ms h r.0), r)
      by false h rest = (placed-all m n ms (either n m h (turned m n (neither-first (m == n) _ d))) r.0, rest)

  -- it has the same numbers and one more
  placed-in : (n : ℕ) (ns : List ℕ) (z : ℕ) → is_in (placed micros n ns) z ≡ (n == z || is_in ns z)
  placed-in n [] z = refl
  placed-in n (m ∷ ms) z = by (is n m) (placed-in n ms z)
    where
      by : (b : Bool) → is_in (placed micros n ms) z ≡ (n == z || is_in ms z)
          → is_in (cond b (n ∷ m ∷ ms) (m ∷ placed micros n ms)) z ≡ (n == z || (m == z || is_in ms z))
      by true rest = refl
      by false rest = ap (λ (t : Bool). m == z || t) rest ∙ or-turned (n == z) (m == z) (is_in ms z)

  pub slowest-in : (ns : List ℕ) (z : ℕ) → is_in (slowest_first micros ns) z ≡ is_in ns z
  slowest-in [] z = refl
  slowest-in (n ∷ ns) z = placed-in n (slowest_first micros ns) z ∙ ap (λ (t : Bool). n == z || t) (slowest-in ns z)

  pub slowest-ranked : (ns : List ℕ) → Differ ns → Ranked (slowest_first micros ns)
  slowest-ranked [] d = tt
  slowest-ranked (n ∷ ns) d = placed-ranked n (slowest_first micros ns) (slowest-in ns n ∙ d.0) (slowest-ranked ns d.1)

  -- of what is in a list a test is true that is true of all
  pub all-at : (l : ℕ) (ns : List ℕ) (z : ℕ) → list_all (is l) ns ≡ true → is_in ns z ≡ true → is l z ≡ true
  all-at l [] z h k = absurd (true≢false (sym k))
  all-at l (n ∷ ns) z h k = by (n == z) refl (λ there. all-at l ns z (both-second (is l n) _ h) there)
    where
      by : (b : Bool) → (n == z) ≡ b → (is_in ns z ≡ true → is l z ≡ true) → is l z ≡ true
      by true e rest = sym (ap (is l) (same_number n z e)) ∙ both-first (is l n) _ h
      by false e rest = rest (sym (ap (λ (t : Bool). t || is_in ns z) e) ∙ k)

  -- the first of a list that ranks isn't in it again
  first-once : (n : ℕ) (ns : List ℕ) → list_all (is n) ns ≡ true → is_in ns n ≡ false
  first-once n ns h = by (is_in ns n) refl
    where
      by : (b : Bool) → is_in ns n ≡ b → b ≡ false
      by false e = refl
      by true e = let low = all-at n ns n h e in absurd (true≢false (sym low ∙ one_way n n low))

  -- two that rank and have the same numbers begin with the same
  first-same : (m : ℕ) (ms : List ℕ) (n : ℕ) (ns : List ℕ) → Ranked (m ∷ ms) → Ranked (n ∷ ns)
      → ((z : ℕ) → is_in (m ∷ ms) z ≡ is_in (n ∷ ns) z) → m ≡ n
  first-same m ms n ns r s same = by (m == n) refl
    where
      by : (b : Bool) → (m == n) ≡ b → m ≡ n
      by true e = same_number m n e
      by false e =
          let there : is_in ns m ≡ true =
          sym (ap (λ (t : Bool). t || is_in ns m) (turned m n e)) ∙ sym (same m) ∙ ap (λ (t : Bool). t || is_in ms m) (itself m) in
          let here : is_in ms n ≡ true =
          sym (ap (λ (t : Bool). t || is_in ms n) e) ∙ same n ∙ ap (λ (t : Bool). t || is_in ns n) (itself n) in
          absurd (true≢false (sym (all-at m ms n r.0 here) ∙ one_way n m (all-at n ns m s.0 there)))

  rest-same : (m : ℕ) (ms ns : List ℕ) → is_in ms m ≡ false → is_in ns m ≡ false → ((z : ℕ) → is_in (m ∷ ms) z ≡ is_in (m ∷ ns) z)
      → (z : ℕ) → is_in ms z ≡ is_in ns z
  rest-same m ms ns d e same z = by (m == z) refl
    where
      by : (b : Bool) → (m == z) ≡ b → is_in ms z ≡ is_in ns z
      by true h = let z-is = same_number m z h in sym (ap (is_in ms) z-is) ∙ d ∙ sym e ∙ ap (is_in ns) z-is
      by false h = sym (ap (λ (t : Bool). t || is_in ms z) h) ∙ same z ∙ ap (λ (t : Bool). t || is_in ns z) h

  -- so they are the same
  pub ranked-one : (ms ns : List ℕ) → Ranked ms → Ranked ns → ((z : ℕ) → is_in ms z ≡ is_in ns z) → ms ≡ ns
  ranked-one [] [] r s same = refl
  ranked-one [] (n ∷ ns) r s same = absurd (true≢false (sym (ap (λ (t : Bool). t || is_in ns n) (itself n)) ∙ sym (same n)))
  ranked-one (m ∷ ms) [] r s same = absurd (true≢false (sym (ap (λ (t : Bool). t || is_in ms m) (itself m)) ∙ same m))
  ranked-one (m ∷ ms) (n ∷ ns) r s same =
      let e = first-same m ms n ns r s same in
      let once : is_in ns m ≡ false = ap (is_in ns) e ∙ first-once n ns s.0 in
      let every : (z : ℕ) → is_in (m ∷ ms) z ≡ is_in (m ∷ ns) z = λ z. same z ∙ sym (ap (λ (k : ℕ). k == z || is_in ns z) e) in
      ap₂ (λ (k : ℕ) (l : List ℕ). k ∷ l) e (ranked-one ms ns r.1 s.1 (rest-same m ms ns (first-once m ms r.0) once every))
