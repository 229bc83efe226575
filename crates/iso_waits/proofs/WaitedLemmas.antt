-- What was waited for while one node is in the way, or none is.
use Rattle.std.proofs.Common.{◌≡◌, ℕ, zero, suc, ◌+◌, ◌-◌, ◌<◌, ◌≤◌, List, [], ◌∷◌, ◌++◌, Option, Some, None, Bool, true, false, ◌==◌, ap, refl, arith}
use Rattle.std.proofs.lemmas.List.{append-nil}
use Rattle.iso_waits.specs.Moments.{Waited, all_of, goes_on, held, waited, waiting}
use Rattle.iso_waits.specs.declared.wait.Wait.{Wait}

eq_same : (n : ℕ) → (n == n) ≡ true
eq_same n = grind arith

-- a wait goes on for the node that it is for
on : (over : List Wait) (m b t next : ℕ) → held t next m over (Some (record { holder = m; begin = b; end = t })) ≡ waiting over m b next
on over m b t next = rw (eq_same m) refl

by_test : (t t' next m : ℕ) (over : List Wait) (w : Wait) (b : Bool) → (w.holder == m) ≡ b
    → held t' next m (held t t' m over (Some w)).over (held t t' m over (Some w)).last ≡ held t next m over (Some w)
by_test t t' next m over w true e = rw e (on over m w.begin t' next)
by_test t t' next m over w false e = rw e (on (over ++ w ∷ []) m t t' next)

held-on : (t t' next m : ℕ) (over : List Wait) (last : Option Wait) → held t' next m (held t t' m over last).over (held t t' m over last).last ≡ held t next m over last
held-on t t' next m over None = on over m t t' next
held-on t t' next m over (Some w) = by_test t t' next m over w (w.holder == m) refl

goes-on : (t t' next : ℕ) (h : Option ℕ) (w : Waited) → goes_on t' next h (goes_on t t' h w) ≡ goes_on t next h w
goes-on t t' next None w = ap (λ (o : List Wait). record { over = o; last = None }) (append-nil (all_of w))
goes-on t t' next (Some m) w = held-on t t' next m w.over w.last

module _ (holder : ℕ → Option ℕ) (from n : ℕ) (h : Option ℕ) where
  run : (k m : ℕ) → m ≡ n + k → ((s : ℕ) → from + n ≤ s → s < from + m + 1 → holder s ≡ h) → waited holder from (suc m) ≡ goes_on (from + n) (from + m + 1) h (waited holder from n)
  run zero m e same =
      let first : m ≡ n = omega arith in
      let is : holder (from + m) ≡ h = same (from + m) (omega arith) (omega arith) in
      cc
  run (suc k) m e same =
      let before : m ≡ suc (n + k) = omega arith in
      let end : from + (n + k) + 1 ≡ from + m = omega arith in
      let is : holder (from + m) ≡ h = same (from + m) (omega arith) (omega arith) in
      let so_far : waited holder from (suc (n + k)) ≡ goes_on (from + n) (from + (n + k) + 1) h (waited holder from n) = run k (n + k) refl (λ s a b. same s a (omega arith)) in
      let further = goes-on (from + n) (from + m) (from + m + 1) h (waited holder from n) in
      cc

-- what was waited for until a moment, where up to it from another one node was in the way, or none was
pub waited-next : (holder : ℕ → Option ℕ) (from at next : ℕ) (h : Option ℕ) (before after : Waited) → from ≤ at → at < next
    → ((s : ℕ) → at ≤ s → s < next → holder s ≡ h) → before ≡ waited holder from (at - from) → after ≡ goes_on at next h before → after ≡ waited holder from (next - from)
waited-next holder from at next h before after begun later same is step =
    let n = at - from in
    let m = next - from - 1 in
    let a : from + n ≡ at = omega arith in
    let b : from + m + 1 ≡ next = omega arith in
    let c : suc m ≡ next - from = omega arith in
    let r = run holder from n h (m - n) m (omega arith) (λ s p q. same s (omega arith) (omega arith)) in
    cc
