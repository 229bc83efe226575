-- What a sort of entries leaves is the only order in which they are listed.
use Rattle.std.proofs.Common.{◌≡◌, ◌<◌, ◌≤◌, ℕ, suc, ◌+◌, List, [], ◌∷◌, length, get_or, map, Bool, false, ◌||◌, nat_lt, refl, sym, ap, ◌&&◌, ap₂, ◌∙◌, subst, arith}
use Rattle.std.proofs.Common.{is_lt, nat_cmp}
use Rattle.std.proofs.lemmas.Bool.Decides.{nat_tests}
use Rattle.std.proofs.lemmas.List.Elements.{All-head, All-nil, All-cons, All-tail}
use Rattle.std.proofs.lemmas.List.Sorted.{All-permutation, IsPermutation-map, list_any-IsPermutation}
use Rattle.std.proofs.lemmas.Map.Keys.{IsDistinct-IsPermutation}
use Rattle.std.specs.Bool.{◌==◌}
use Rattle.std.specs.List.{All, AllByRecursion, IsDistinct}
use Rattle.std.specs.List.Sorted.{IsPermutation}
use Rattle.std.specs.Ordering.{ordering_then}
use Rattle.iso_durations.specs.Entries.{entry, node_of}
use Rattle.iso_durations.specs.Orders.{is_before, is_in, slowest_first}
use Rattle.iso_durations.specs.declared.durations.Timed.{Timed}
use Rattle.iso_durations.proofs.OrderLemmas.{Differ, Steps, either, neither-first, neither-second, ranked-one, ranked-steps, slowest-in, slowest-ranked}

-- numbers that differ, in the words of the library
abbrev same : ℕ → ℕ → Bool
same x y = y == x

same-turned : (x y : ℕ) → same x y ≡ same y x
same-turned x y = grind (arith, nat_tests)

apart-from : (n : ℕ) (ns : List ℕ) → is_in ns n ≡ false → AllByRecursion (λ m. same n m ≡ false) ns
apart-from n [] h = tt
apart-from n (m ∷ ms) h = (neither-first (m == n) _ h, apart-from n ms (neither-second (m == n) _ h))

apart-to : (n : ℕ) (ns : List ℕ) → AllByRecursion (λ m. same n m ≡ false) ns → is_in ns n ≡ false
apart-to n [] h = refl
apart-to n (m ∷ ms) h = ap (λ (t : Bool). t || is_in ms n) h.0 ∙ apart-to n ms h.1

distinct-from : (ns : List ℕ) → Differ ns → IsDistinct same ns
unfolding IsDistinct
distinct-from [] d = tt
distinct-from (n ∷ ns) d = (apart-from n ns d.0, distinct-from ns d.1)

distinct-to : (ns : List ℕ) → IsDistinct same ns → Differ ns
unfolding IsDistinct
distinct-to [] d = tt
distinct-to (n ∷ ns) d = (apart-to n ns d.0, distinct-to ns d.1)

differ-permutation : (ms ns : List ℕ) → IsPermutation ms ns → Differ ms → Differ ns
differ-permutation ms ns p d = distinct-to ns (IsDistinct-IsPermutation same same-turned ms ns p (distinct-from ms d))

-- what a sort compares is the order
compared : (x m y n : ℕ) → is_lt (ordering_then (nat_cmp y x) (nat_cmp m n)) ≡ (nat_lt y x || (y == x && nat_lt m n))
compared x m y n = grind (arith, nat_tests)

-- what a sort says of two entries, one behind the other
abbrev InOrder : Timed → Timed → Type 0
InOrder a b = is_lt (ordering_then (nat_cmp a.micros b.micros) (nat_cmp b.node a.node)) ≡ false

abbrev pub AreSorted : List Timed → Type 0
AreSorted es = (k : ℕ) (d : Timed) → 0 ≤ k → k + 1 < length es → InOrder (get_or es k d) (get_or es (k + 1) d)

module _ (micros : ℕ → ℕ) where
  -- entries of nodes that differ are sorted where each node stands before the next
  steps-sorted : (ns : List ℕ) → Differ ns → AreSorted (map (entry micros) ns) → Steps micros ns
  steps-sorted [] d s = tt
  steps-sorted (n ∷ []) d s = tt
  steps-sorted (m ∷ n ∷ ns) d s =
      let low : is_before micros n m ≡ false = sym (compared (micros n) n (micros m) m) ∙ s 0 (entry micros m) (omega arith) (omega arith) in
      let next : (k : ℕ) → suc k + 1 ≡ suc (k + 1) = λ k. omega arith in
      let all = map (entry micros) (m ∷ n ∷ ns) in
      let rest : AreSorted (map (entry micros) (n ∷ ns)) =
      λ k e l h. subst (λ (j : ℕ). InOrder (get_or all (suc k) e) (get_or all j e)) (next k) (s (suc k) e (omega arith) (omega arith)) in
      (either micros n m low (neither-first (n == m) _ d.0), steps-sorted (n ∷ ns) d.1 rest)

  -- entries that are those of their nodes
  abbrev IsEntry : Timed → Type 0
  IsEntry e = e ≡ entry micros (node_of e)

  nodes-entries : (ns : List ℕ) → map node_of (map (entry micros) ns) ≡ ns
  nodes-entries [] = refl
  nodes-entries (n ∷ ns) = ap (λ (l : List ℕ). n ∷ l) (nodes-entries ns)

  entries-are : (ns : List ℕ) → All IsEntry (map (entry micros) ns)
  entries-are [] = All-nil IsEntry
  entries-are (n ∷ ns) = All-cons IsEntry (entry micros n) (map (entry micros) ns) refl (entries-are ns)

  entries-nodes : (es : List Timed) → All IsEntry es → es ≡ map (entry micros) (map node_of es)
  entries-nodes [] a = refl
  entries-nodes (e ∷ es) a = ap₂ (λ (x : Timed) (l : List Timed). x ∷ l) (All-head IsEntry e es a) (entries-nodes es (All-tail IsEntry e es a))

  -- sorted, they are those of the nodes in the order in which they are listed
  pub sorted-is : (ns : List ℕ) (es : List Timed) → Differ ns → IsPermutation (map (entry micros) ns) es → AreSorted es
      → es ≡ map (entry micros) (slowest_first micros ns)
  sorted-is ns es d p s =
      let ms = map node_of es in
      let are = entries-nodes es (All-permutation IsEntry (map (entry micros) ns) es p (entries-are ns)) in
      let q : IsPermutation ns ms = subst (λ (l : List ℕ). IsPermutation l ms) (nodes-entries ns) (IsPermutation-map node_of (map (entry micros) ns) es p) in
      let steps = steps-sorted ms (differ-permutation ns ms q d) (subst AreSorted are s) in
      let alike : (z : ℕ) → is_in ms z ≡ is_in (slowest_first micros ns) z =
      λ z. sym (list_any-IsPermutation (λ n. n == z) ns ms q) ∙ sym (slowest-in micros ns z) in
      are ∙ ap (map (entry micros)) (ranked-one micros ms (slowest_first micros ns) (ranked-steps micros ms steps) (slowest-ranked micros ns d) alike)
