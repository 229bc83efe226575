-- The bodies of a run, in the order in which they ended.
use Rattle.std.proofs.Common.{◌≡◌, ◌<◌, ◌≤◌, ℕ, zero, suc, ◌+◌, ◌*◌, ◌/◌, List, [], ◌∷◌, ◌++◌, Option, Bool, true, false, true≢false, ◌==◌, ◌&&◌, ◌||◌, not, cond, nat_lt, length, map, All, get_or, is_lt, nat_cmp, refl, ap, ap₂, sym, subst, ◌∙◌, append-nil, arith}
use Rattle.std.proofs.lemmas.Bool.Decides.{nat_tests}
use Rattle.std.proofs.lemmas.List.{get_or-map, map-append, length-map}
use Rattle.std.proofs.lemmas.List.Elements.{All-cons, All-head, All-map, All-nil, All-tail}
use Rattle.std.proofs.lemmas.List.Sorted.{All-permutation, IsPermutation-map}
use Rattle.std.specs.List.{list_all}
use Rattle.std.specs.List.Sorted.{IsPermutation}
use Rattle.std.specs.Ordering.{ordering_then}
use Rattle.iso_critical.specs.Bodies.{IsWithin, body_at, end_at, has_run, latest_first, ran}
use Rattle.iso_critical.specs.Orders.{placed}
use Rattle.iso_critical.specs.declared.body.Body.{Body}
use Rattle.iso_critical.proofs.WalkLemmas.{AreNoLater, Falls}
use Rattle.iso_durations.proofs.ListLemmas.{length-listed, slowest-every}
use Rattle.iso_durations.proofs.OrderLemmas.{Ranked, both-first, both-second, slowest-ranked}
use Rattle.iso_durations.proofs.SortLemmas.{AreSorted, sorted-is}
use Rattle.iso_durations.proofs.TimesLemmas.{those-all, those-differ}
use Rattle.iso_durations.specs.Entries.{entry, node_of}
use Rattle.iso_durations.specs.Orders.{is_before, slowest_first}
use Rattle.iso_durations.specs.declared.durations.Timed.{Timed}
use Rattle.iso_plan.specs.Paths.{is_root}
use Rattle.iso_plan.specs.KeptNodes.{those_below}
use Rattle.iso_times.specs.declared.times.BodyTime.{BodyTime}

module _ (bodies : List (Option BodyTime)) where
  abbrev those : ℕ → List ℕ
  those n = those_below (has_run bodies) n

  -- one place more
  place-more : (n : ℕ) → those (suc n) ≡ those n ++ placed bodies n
  place-more n = by (has_run bodies n)
    where
      by : (b : Bool) → cond b (those n ++ n ∷ []) (those n) ≡ those n ++ cond b (n ∷ []) []
      by true = refl
      by false = sym (append-nil (those n))

  -- two bodies more
  pub node-more : (n : ℕ) (bs : List Body) → bs ≡ map (body_at bodies) (those (2 * n))
      → (bs ++ map (body_at bodies) (placed bodies (2 * n))) ++ map (body_at bodies) (placed bodies (2 * n + 1)) ≡ map (body_at bodies) (those (2 * (n + 1)))
  node-more n bs is =
      let up : 2 * n + 1 ≡ suc (2 * n) = omega arith in
      let top : suc (2 * n + 1) ≡ 2 * (n + 1) = omega arith in
      let one = ap (λ (cs : List Body). cs ++ map (body_at bodies) (placed bodies (2 * n))) is ∙ sym (map-append (body_at bodies) (those (2 * n)) (placed bodies (2 * n)))
      ∙ ap (map (body_at bodies)) (sym (place-more (2 * n))) ∙ ap (λ (k : ℕ). map (body_at bodies) (those k)) (sym up) in
      ap (λ (cs : List Body). cs ++ map (body_at bodies) (placed bodies (2 * n + 1))) one
      ∙ sym (map-append (body_at bodies) (those (2 * n + 1)) (placed bodies (2 * n + 1)))
      ∙ ap (map (body_at bodies)) (sym (place-more (2 * n + 1)))
      ∙ ap (λ (k : ℕ). map (body_at bodies) (those k)) top

  -- a body as an entry of a sorted list
  abbrev timed : Body → Timed
  timed b = record { micros = b.time.end; node = b.place }

  abbrev IsAt : Body → Type 0
  IsAt b = b ≡ body_at bodies b.place

  abbrev place : Body → ℕ
  place b = b.place

  are-at : (is : List ℕ) → All IsAt (map (body_at bodies) is)
  are-at [] = All-nil IsAt
  are-at (i ∷ is) = All-cons IsAt (body_at bodies i) (map (body_at bodies) is) refl (are-at is)

  by-place : (bs : List Body) → All IsAt bs → bs ≡ map (body_at bodies) (map place bs)
  by-place [] a = refl
  by-place (b ∷ bs) a = ap₂ (λ (c : Body) (cs : List Body). c ∷ cs) (All-head IsAt b bs a) (by-place bs (All-tail IsAt b bs a))

  timed-at : (is : List ℕ) → map timed (map (body_at bodies) is) ≡ map (entry (end_at bodies)) is
  timed-at [] = refl
  timed-at (i ∷ is) = ap (λ (ts : List Timed). entry (end_at bodies) i ∷ ts) (timed-at is)

  places-timed : (bs : List Body) → map node_of (map timed bs) ≡ map place bs
  places-timed [] = refl
  places-timed (b ∷ bs) = ap (λ (is : List ℕ). b.place ∷ is) (places-timed bs)

  places-entries : (is : List ℕ) → map node_of (map (entry (end_at bodies)) is) ≡ is
  places-entries [] = refl
  places-entries (i ∷ is) = ap (λ (js : List ℕ). i ∷ js) (places-entries is)

  -- what a sort says of bodies
  abbrev pub AreInOrder : List Body → Type 0
  AreInOrder bs = (k : ℕ) (d : Body) → 0 ≤ k → k + 1 < length bs
      → is_lt (ordering_then (nat_cmp (get_or bs k d).time.end (get_or bs (k + 1) d).time.end) (nat_cmp (get_or bs (k + 1) d).place (get_or bs k d).place)) ≡ false

  pub timed-sorted : (bs : List Body) → AreInOrder bs → AreSorted (map timed bs)
  timed-sorted bs s k d low h =
      let some = body_at bodies 0 in
      let within : k + 1 < length bs = rw length-map at h in
      rw (get_or-map timed bs k some d (omega arith), get_or-map timed bs (k + 1) some d within) (s k some low within)

  pub sorted : (nodes : ℕ) (bs : List Body) → IsPermutation (map (body_at bodies) (ran bodies nodes)) bs → AreSorted (map timed bs) → bs ≡ latest_first bodies nodes
  sorted nodes bs p s =
      let is = ran bodies nodes in
      let are = by-place bs (All-permutation IsAt (map (body_at bodies) is) bs p (are-at is)) in
      let q : IsPermutation (map (entry (end_at bodies)) is) (map timed bs) =
      subst (λ (ts : List Timed). IsPermutation ts (map timed bs)) (timed-at is) (IsPermutation-map timed (map (body_at bodies) is) bs p) in
      let in-turn = sorted-is (end_at bodies) is (map timed bs) (those-differ (has_run bodies) (2 * nodes)) q s in
      let places : map place bs ≡ slowest_first (end_at bodies) is = sym (places-timed bs) ∙ ap (map node_of) in-turn ∙ places-entries (slowest_first (end_at bodies) is) in
      are ∙ ap (map (body_at bodies)) places

  -- the order falls
  no-later : (x m y n : ℕ) → (nat_lt y x || (y == x && nat_lt m n)) ≡ true → y ≤ x
  no-later x m y n h = grind (arith, nat_tests)

  all-no-later : (i : ℕ) (is : List ℕ) → list_all (is_before (end_at bodies) i) is ≡ true → AreNoLater (body_at bodies i) (map (body_at bodies) is)
  all-no-later i [] h = tt
  all-no-later i (j ∷ js) h =
      (no-later (end_at bodies i) i (end_at bodies j) j (both-first (is_before (end_at bodies) i j) _ h), all-no-later i js (both-second (is_before (end_at bodies) i j) _ h))

  ranked-falls : (is : List ℕ) → Ranked (end_at bodies) is → Falls (map (body_at bodies) is)
  ranked-falls [] r = tt
  ranked-falls (i ∷ is) r = (all-no-later i is r.0, ranked-falls is r.1)

  pub latest-falls : (nodes : ℕ) → Falls (latest_first bodies nodes)
  latest-falls nodes = ranked-falls (slowest_first (end_at bodies) (ran bodies nodes)) (slowest-ranked (end_at bodies) (ran bodies nodes) (those-differ (has_run bodies) (2 * nodes)))

  pub latest-length : (nodes : ℕ) → length (latest_first bodies nodes) ≡ length (ran bodies nodes)
  latest-length nodes = length-map (slowest_first (end_at bodies) (ran bodies nodes)) (body_at bodies) ∙ length-listed (end_at bodies) 0 (ran bodies nodes)

  -- each body is one of the nodes
  within-at : (nodes i : ℕ) → (has_run bodies i ≡ true) × (i < 2 * nodes) → IsWithin nodes (body_at bodies i)
  within-at nodes i h = record { above = above (i / 2) (both-first (not (is_root (i / 2))) _ h.0); node = omega (arith, h.1); place = h.1 }
    where
      above : (n : ℕ) → not (is_root n) ≡ true → 0 < n
      above zero e = absurd (true≢false (sym e))
      above (suc n) e = omega arith

  pub latest-within : (nodes : ℕ) → All (IsWithin nodes) (latest_first bodies nodes)
  latest-within nodes =
      All-map (IsWithin nodes) (body_at bodies) (slowest_first (end_at bodies) (ran bodies nodes))
      (slowest-every (λ (i : ℕ). IsWithin nodes (body_at bodies i)) (end_at bodies) (ran bodies nodes)
      (λ k d h. within-at nodes _ (those-all (has_run bodies) (2 * nodes) k d h)))
