-- Nodes that stand in a class.
use Rattle.std.proofs.Common.{◌≡◌, ℕ, ◌<◌, ◌≤◌, List, Bool, true, false, cond, eqb, ap, sym, ◌∙◌, arith, inl, inr}
use Rattle.std.proofs.lemmas.Bool.{cases_eq, cases_lt}
use Rattle.iso_isolation.specs.Events.{is_in}
use Rattle.iso_plan.proofs.PathLemmas.{IsBelow, along, eq_not, eq_same, path-root, path-step}
use Rattle.iso_plan.specs.Paths.{parent, path}
use Rattle.iso_plan.specs.Preorder.{IsPreorder}
use Rattle.iso_plan.specs.Tree.{Row}

module _ (tree : List Row) (below : IsBelow tree) where
  at-step : (m n : ℕ) → 0 < n → is_in m (path tree n) ≡ cond (eqb n m) true (is_in m (path tree (parent tree n)))
  at-step m n h = ap (is_in m) (path-step tree below n h)

  -- what stands above a node that isn't the one looked for
  pub inside-up : (m n : ℕ) → m < n → is_in m (path tree (parent tree n)) ≡ is_in m (path tree n)
  inside-up m n h = sym (at-step m n (omega arith) ∙ ap (λ (b : Bool). cond b true (is_in m (path tree (parent tree n)))) (eq_not n m (λ e. omega (arith, e))))

  -- a path has only numbers up to that of its node
  pub not-inside : (n m : ℕ) → n < m → is_in m (path tree n) ≡ false
  not-inside = along tree below (λ n. (m : ℕ) → n < m → is_in m (path tree n) ≡ false)
      (λ m h. ap (is_in m) (path-root tree))
      (λ n pos up m h.
      let less = below n pos in
      at-step m n pos ∙ ap (λ (b : Bool). cond b true (is_in m (path tree (parent tree n)))) (eq_not n m (λ e. omega (arith, e))) ∙ up m (omega arith))

  -- a node on its own path
  pub itself-inside : (n : ℕ) → 0 < n → is_in n (path tree n) ≡ true
  itself-inside n h = at-step n n h ∙ ap (λ (b : Bool). cond b true (is_in n (path tree (parent tree n)))) (eq_same n)

  -- where each of the nodes behind a class stands in the class or in one behind it, all of them stand in the class
  pub run-inside : (c most : ℕ) → 0 < c → ((m : ℕ) → c < m → m < most → c ≤ parent tree m) → (n : ℕ) → c < n → n < most → is_in c (path tree (parent tree n)) ≡ true
  run-inside c most inner run = along tree below (λ n. c < n → n < most → is_in c (path tree (parent tree n)) ≡ true)
      (λ h less. absurd (omega arith))
      (λ n pos up h less.
      let above = run n h less in
      let lower = below n pos in
      elim (cases_eq (parent tree n) c) [
        | inl same ↦ ap (λ j. is_in c (path tree j)) same ∙ itself-inside c inner
        | inr other ↦ sym (inside-up c (parent tree n) (omega (arith, other))) ∙ up (omega (arith, other)) (omega arith)
      ])

  -- in preorder no node stands in a class behind one that doesn't
  pub none-inside : IsPreorder tree → (c m : ℕ) → c < m → parent tree m < c → (n : ℕ) → m ≤ n → is_in c (path tree (parent tree n)) ≡ false
  none-inside order c m behind out = along tree below (λ n. m ≤ n → is_in c (path tree (parent tree n)) ≡ false)
      (λ h. absurd (omega arith))
      (λ n pos up h. elim (cases_lt (parent tree n) m) [
        | inl less ↦ not-inside (parent tree n) c (elim (cases_eq n m) [
          | inl same ↦ let above : parent tree n ≡ parent tree m = ap (parent tree) same in omega arith
          | inr other ↦ let above = order m n (omega (arith, other)) less in omega arith
        ])
        | inr past ↦ sym (inside-up c (parent tree n) (omega arith)) ∙ up past
      ])
