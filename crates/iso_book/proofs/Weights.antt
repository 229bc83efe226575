-- How many events may still come.
use Rattle.std.proofs.Common.{◌≡◌, ℕ, zero, suc, ◌<◌, ◌≤◌, inl, inr, ap, subst, arith}
use Rattle.iso_book.specs.Books.{left_below, weight}
use Rattle.iso_isolation.proofs.Changes.{equal_or_not}
use Rattle.iso_standing.specs.Phases.{phase_of}
use Rattle.iso_suites.specs.SuiteStates.{RunState}

-- how many events a node of a state may still have
abbrev pub weight-at : RunState → ℕ → ℕ
weight-at s n = weight (phase_of (s.nodes.status n))

-- where each of the first n nodes may have no more events than before, they may all have no more
pub no-more : (s t : RunState) (n : ℕ) → ((m : ℕ) → m < n → weight-at t m ≤ weight-at s m) → left_below t n ≤ left_below s n
no-more s t zero less = omega arith
no-more s t (suc n) less =
    let below = no-more s t n (λ m h. less m (omega arith)) in
    let here = less n (omega arith) in
    omega arith

-- and where one may have fewer, all may have fewer
pub one-less : (s t : RunState) (n at : ℕ) → at < n → weight-at t at < weight-at s at
    → ((m : ℕ) → m < n → weight-at t m ≤ weight-at s m) → left_below t n < left_below s n
one-less s t zero at inside fewer less = absurd (omega arith)
one-less s t (suc n) at inside fewer less = elim (equal_or_not at n) [
  | inl e ↦
      let below = no-more s t n (λ m h. less m (omega arith)) in
      let here : weight-at t n < weight-at s n = subst (λ (j : ℕ). weight-at t j < weight-at s j) e fewer in
      omega arith
  | inr ne ↦
      let below = one-less s t n at (omega arith) fewer (λ m h. less m (omega arith)) in
      let here = less n (omega arith) in
      omega arith
]

-- a node's events are among those that are left
pub among : (s : RunState) (n at : ℕ) → at < n → weight-at s at ≤ left_below s n
among s zero at inside = absurd (omega arith)
among s (suc n) at inside = elim (equal_or_not at n) [
  | inl e ↦ let here : weight-at s at ≡ weight-at s n = ap (weight-at s) e in omega arith
  | inr ne ↦ let below = among s n at (omega arith) in omega arith
]
