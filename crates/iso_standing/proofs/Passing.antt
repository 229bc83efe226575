-- The children of a node stand in order, and which of them stay passed where a phase changes.
use Rattle.std.proofs.Common.{◌≡◌, ℕ, zero, suc, ◌+◌, ◌-◌, ◌<◌, ◌≤◌, List, [], ◌∷◌, ◌++◌, length, get_or, set, drop, replicate, Option, None, Bool, true, false, ◌==◌, ◌&&◌, not, cond, leb, ap, ap₂, sym, ◌∙◌, subst, arith, inl, inr, refl}
use Rattle.std.specs.List.{list_any}
use Rattle.std.proofs.lemmas.Bool.{cases_eq, cases_lt, le-leb, lt-leb}
use Rattle.std.proofs.lemmas.List.{get_or-drop, get_or-replicate, get_or-set_other, get_or-set_same, get_or_append_left, get_or_past, get_or_push, length-append, length-drop, length-replicate, length-set}
use Rattle.std.proofs.lemmas.List.Elements.{All-from_get_or}
use Rattle.std.proofs.lemmas.List.Folds.{list_any_at, list_any_none}
use Rattle.iso_standing.specs.Passed.{ArePassed, KeepsPassed, is_due}
use Rattle.iso_standing.specs.Phases.{bare}
use Rattle.iso_standing.specs.Standings.{IsStanding, Standing, with_phase}
use Rattle.iso_standing.specs.declared.phase.Phase.{Phase}
use Rattle.iso_standing.specs.declared.phase.Phase.TheVariants.{Waiting}
use Rattle.iso_isolation.specs.States.{is_finished}
use Rattle.iso_plan.proofs.ChildLemmas.{child-below, child-is}
use Rattle.iso_plan.specs.Modes.{mode}
use Rattle.iso_plan.specs.Paths as Paths
use Rattle.iso_plan.specs.Paths.{children, children_below, parent}
use Rattle.iso_plan.specs.Planned.{Planned}
use Rattle.iso_plan.specs.RowView.{tree_of}
use Rattle.iso_plan.specs.Tree.{Row}
use Rattle.iso_suites.specs.PlanSuites.{is_same_thread}

-- each number of a list is smaller than those after it
abbrev pub IsInOrder : List ℕ → Type 0
IsInOrder xs = (i j : ℕ) → i < j → j < length xs → get_or xs i 0 < get_or xs j 0

order-push : (xs : List ℕ) (n : ℕ) → ((i : ℕ) → i < length xs → get_or xs i 0 < n) → IsInOrder xs → IsInOrder (xs ++ n ∷ [])
order-push xs n less order i j h within =
    let count : length (xs ++ n ∷ []) ≡ length xs + 1 = length-append xs (n ∷ []) in
    elim (cases_lt j (length xs)) [
      | inl before ↦ rw (get_or_append_left xs (n ∷ []) 0 i (omega arith), get_or_append_left xs (n ∷ []) 0 j before) (order i j h before)
      | inr other ↦
          let last : length xs ≡ j = omega arith in
          rw (get_or_append_left xs (n ∷ []) 0 i (omega arith), get_or_push xs n 0 j last) (less i (omega arith))
    ]

order-by : (t : Bool) (xs : List ℕ) (n : ℕ) → ((i : ℕ) → i < length xs → get_or xs i 0 < n) → IsInOrder xs → IsInOrder (cond t (xs ++ n ∷ []) xs)
order-by true xs n less order = order-push xs n less order
order-by false xs n less order = order

-- the children of a node stand in the order of their numbers
pub order-below : (tree : List Row) (m n : ℕ) → IsInOrder (children_below tree m n)
order-below tree m zero i j h within = absurd (omega arith)
order-below tree m (suc n) i j h within =
    order-by (not (Paths.is_root n) && parent tree n == m) (children_below tree m n) n (λ k less. (child-below tree m n k less).within) (order-below tree m n) i j h within

-- a child at a later place has no smaller number
pub children-order : (tree : List Row) (m i j : ℕ) → i ≤ j → j < length (children tree m) → get_or (children tree m) i 0 ≤ get_or (children tree m) j 0
children-order tree m i j h within = elim (cases_eq i j) [
  | inl same ↦ let e : get_or (children tree m) i 0 ≡ get_or (children tree m) j 0 = ap (λ k. get_or (children tree m) k 0) same in omega arith
  | inr other ↦ let less = order-below tree m (length tree) i j (omega (arith, other)) within in omega arith
]

-- a child has a greater number than its place among the children
pub child-beyond : (tree : List Row) (m i : ℕ) → i < length (children tree m) → i < get_or (children tree m) i 0
child-beyond tree m zero h = (child-is tree m 0 h).positive
child-beyond tree m (suc i) h =
    let before = child-beyond tree m i (omega arith) in
    let less = order-below tree m (length tree) i (suc i) (omega arith) h in
    omega arith

pub and-false : (a : Bool) → (a && false) ≡ false
and-false true = refl
and-false false = refl

due-stays : (s f g : Bool) → (f ≡ true → g ≡ true) → (s && not f) ≡ false → (s && not g) ≡ false
due-stays false f g more e = refl
due-stays true true g more e = ap not (more refl)
due-stays true false g more e = absurd (cc)

-- a worker has no node at first
pub none-in : (k w : ℕ) → get_or (replicate {A = Option ℕ} k None) w None ≡ None
none-in k w = elim (cases_lt w k) [
  | inl within ↦ get_or-replicate k w None None within
  | inr past ↦ get_or_past (replicate {A = Option ℕ} k None) w None (let count = length-replicate {A = Option ℕ} k None in omega (arith, count, past))
]

set-past : (xs : List Phase) (n : ℕ) (x d : Phase) → length xs ≤ n → get_or (set xs n x) n d ≡ get_or xs n d
set-past [] n x d h = refl
set-past (y ∷ xs) zero x d h = absurd (omega arith)
set-past (y ∷ xs) (suc n) x d h = set-past xs n x d (omega arith)

module _ (p : Planned) where
  -- the first children of a node stay passed where a finished node stays finished
  pub passed-still : (phases : List Phase) (n : ℕ) (phase : Phase) (m count : ℕ)
      → (is_finished (bare (get_or phases n Waiting)) ≡ true → is_finished (bare phase) ≡ true) → ArePassed p phases m count → ArePassed p (set phases n phase) m count
  passed-still phases n phase m count more passed = record {
    there = passed.there;
    none_due = λ i h. let k = get_or (children (tree_of p) m) i 0 in elim (cases_eq k n) [
      | inl same ↦
          let before : is_due p phases n ≡ false = ap (is_due p phases) (sym same) ∙ passed.none_due i h in
          ap (is_due p (set phases n phase)) same ∙ elim (cases_lt n (length phases)) [
            | inl long ↦
                ap (λ (q : Phase). is_same_thread (mode (tree_of p) p.settings n) && not (is_finished (bare q))) (get_or-set_same phases n phase Waiting long)
                ∙ due-stays (is_same_thread (mode (tree_of p) p.settings n)) (is_finished (bare (get_or phases n Waiting))) (is_finished (bare phase)) more before
            | inr past ↦ ap (λ (q : Phase). is_same_thread (mode (tree_of p) p.settings n) && not (is_finished (bare q))) (set-past phases n phase Waiting past) ∙ before
          ]
      | inr other ↦
          ap (λ (q : Phase). is_same_thread (mode (tree_of p) p.settings k) && not (is_finished (bare q))) (get_or-set_other phases n k phase Waiting other) ∙ passed.none_due i h
    ];
  }

  -- the children of other nodes stay passed whatever a node comes to
  passed-other : (phases : List Phase) (n : ℕ) (phase : Phase) (m count : ℕ) → (m ≡ parent (tree_of p) n → ⊥) → ArePassed p phases m count → ArePassed p (set phases n phase) m count
  passed-other phases n phase m count apart passed = record {
    there = passed.there;
    none_due = λ i h.
        let k = get_or (children (tree_of p) m) i 0 in
        let there = passed.there in
        let child = child-is (tree_of p) m i (omega arith) in
        ap (λ (q : Phase). is_same_thread (mode (tree_of p) p.settings k) && not (is_finished (bare q)))
        (get_or-set_other phases n k phase Waiting (λ same. apart (sym child.parent_is ∙ ap (parent (tree_of p)) same)))
        ∙ passed.none_due i h;
  }

  -- a number for one node, where those of the others stay
  keeps-at : (phases later : List Phase) (counts : List ℕ) (m count : ℕ) → KeepsPassed p phases counts → m < length p.rows → ArePassed p later m count
      → ((n k : ℕ) → (n ≡ m → ⊥) → ArePassed p phases n k → ArePassed p later n k) → KeepsPassed p later (set counts m count)
  keeps-at phases later counts m count keeps within passed others = record {
    each = length-set counts m count ∙ keeps.each;
    none_due = λ n h. elim (cases_eq n m) [
      | inl same ↦
          let long : m < length counts = omega (arith, keeps.each) in
          subst (λ k. ArePassed p later k (get_or (set counts m count) k 0)) (sym same)
          (subst (ArePassed p later m) (sym (get_or-set_same counts m count 0 long)) passed)
      | inr other ↦ subst (ArePassed p later n) (sym (get_or-set_other counts m n count 0 other)) (others n (get_or counts n 0) other (keeps.none_due n h))
    ];
  }

  pub keeps-more : (phases : List Phase) (counts : List ℕ) (m count : ℕ) → KeepsPassed p phases counts → m < length p.rows → ArePassed p phases m count → KeepsPassed p phases (set counts m count)
  keeps-more phases counts m count keeps within passed = keeps-at phases phases counts m count keeps within passed (λ n k apart same. same)

  pub keeps-phase : (phases : List Phase) (counts : List ℕ) (n : ℕ) (phase : Phase) (m count : ℕ) → KeepsPassed p phases counts → m ≡ parent (tree_of p) n → m < length p.rows
      → ArePassed p (set phases n phase) (parent (tree_of p) n) count → KeepsPassed p (set phases n phase) (set counts m count)
  keeps-phase phases counts n phase m count keeps is within passed =
      keeps-at phases (set phases n phase) counts m count keeps within (subst (λ j. ArePassed p (set phases n phase) j count) (sym is) passed)
      (λ j k apart old. passed-other phases n phase j k (λ e. apart (e ∙ sym is)) old)

  -- at first none is passed
  pub keeps-none : (phases : List Phase) → KeepsPassed p phases (replicate (length p.rows) 0)
  keeps-none phases = record {
    each = length-replicate (length p.rows) 0;
    none_due = λ n h.
        subst (ArePassed p phases n) (sym (get_or-replicate (length p.rows) n 0 0 h)) (record { there = omega arith; none_due = λ i less. absurd (omega arith) });
  }

  -- of the children before a node none is due where none of the first ones is, none of the next, and the one after those isn't before it
  pub none-left : (phases : List Phase) (m n first : ℕ) (left : List ℕ) → left ≡ drop first (children (tree_of p) m) → ArePassed p phases m first → (more : ℕ)
      → ((i : ℕ) → i < more → (leb (suc (get_or left i 0)) n && is_due p phases (get_or left i 0)) ≡ false) → (more < length left → n ≤ get_or left more 0)
      → list_any (λ k. leb (suc k) n && is_due p phases k) (children (tree_of p) m) ≡ false
  none-left phases m n first left are passed more next last =
      let xs = children (tree_of p) m in
      let test : ℕ → Bool = λ k. leb (suc k) n && is_due p phases k in
      let long : length left ≡ length xs - first = ap length are ∙ length-drop first xs in
      let at : (i : ℕ) → get_or left i 0 ≡ get_or xs (first + i) 0 = λ i. ap (λ (ys : List ℕ). get_or ys i 0) are ∙ get_or-drop first xs i 0 in
      list_any_none test xs (All-from_get_or (λ k. test k ≡ false) xs 0 (λ i h. elim (cases_lt i first) [
        | inl early ↦ ap (λ (b : Bool). leb (suc (get_or xs i 0)) n && b) (passed.none_due i early) ∙ and-false (leb (suc (get_or xs i 0)) n)
        | inr late ↦ elim (cases_lt i (first + more)) [
          | inl seen ↦
              let place : first + (i - first) ≡ i = omega (arith, late) in
              ap (λ j. test (get_or xs j 0)) (sym place) ∙ ap test (sym (at (i - first))) ∙ next (i - first) (omega (arith, late, seen))
          | inr beyond ↦
              let least = last (omega (arith, long, h, beyond)) in
              let here = at more in
              let order = children-order (tree_of p) m (first + more) i beyond h in
              ap (λ (b : Bool). b && is_due p phases (get_or xs i 0)) (lt-leb (suc (get_or xs i 0)) n (omega (arith, least, here, order)))
        ]
      ]))

  -- a child before a node that is due, among those that aren't passed
  pub some-left : (phases : List Phase) (m n first : ℕ) (left : List ℕ) → left ≡ drop first (children (tree_of p) m) → (i : ℕ) → i < length left → get_or left i 0 < n
      → is_due p phases (get_or left i 0) ≡ true → list_any (λ k. leb (suc k) n && is_due p phases k) (children (tree_of p) m) ≡ true
  some-left phases m n first left are i h less due =
      let xs = children (tree_of p) m in
      let test : ℕ → Bool = λ k. leb (suc k) n && is_due p phases k in
      let long : length left ≡ length xs - first = ap length are ∙ length-drop first xs in
      let at : get_or left i 0 ≡ get_or xs (first + i) 0 = ap (λ (ys : List ℕ). get_or ys i 0) are ∙ get_or-drop first xs i 0 in
      list_any_at test xs (first + i) 0 (omega (arith, long, h)) (ap test (sym at) ∙ ap₂ (λ (a b : Bool). a && b) (le-leb (suc (get_or left i 0)) n less) due)

-- a standing stays one where a node but the root comes so far
pub standing-phase : (v : Standing) (n : ℕ) (phase : Phase) → 0 < n → IsStanding v → IsStanding (with_phase v n phase)
standing-phase v n phase inner is = record {
  phases = length-set v.phases n phase ∙ is.phases;
  owners = is.owners;
  root = λ h. get_or-set_other v.phases n 0 phase Waiting (λ e. omega (arith, e)) ∙ is.root h;
  bodies = is.bodies;
}
