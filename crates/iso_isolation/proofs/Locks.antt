-- What the locks and the order of siblings give: of two entered nodes of which one may change what the other may look at,
-- one stands on the path of the other.
use Rattle.std.proofs.Common.{◌≡◌, ℕ, ◌<◌, ◌≤◌, true, [], ◌⊎◌, inl, inr, refl, sym, subst, arith, le_refl}
use Rattle.iso_isolation.specs.Languages.{Language, BodyLaws}
use Rattle.iso_isolation.specs.Suites.{Suite, On, same, up, chain, may_read, may_write, SuiteLaws, Shared}
use Rattle.iso_isolation.specs.States.{Status, Open, is_open, is_finished, is_held}
use Rattle.iso_isolation.proofs.Changes.{equal_or_not}
use Rattle.iso_isolation.proofs.Statuses.{open_held, finished_unheld}

module _ {H K V B F R : Type 0} (x : Suite H K V) where
  -- of the statuses: an entered node is in the plan and stands in an open one, no two of them conflict, and of siblings that
  -- are SAME_THREAD the earlier ones are finished
  pub record Locked (st : ℕ → Status B F R) : Type 0 where
    pub root : st 0 ≡ Open []
    pub inside : (n : ℕ) → (n ≡ 0 → ⊥) → is_held (st n) ≡ true → n < x.nodes
    pub tree : (n : ℕ) → (n ≡ 0 → ⊥) → is_held (st n) ≡ true → is_open (st (x.parent n)) ≡ true
    pub apart : (m n : ℕ) → (m ≡ n → ⊥) → is_held (st m) ≡ true → is_held (st n) ≡ true → Shared x m n → ⊥
    pub order : (m n : ℕ) → m < n → (m ≡ 0 → ⊥) → x.parent m ≡ x.parent n → x.is_same_thread m ≡ true → x.is_same_thread n ≡ true
        → is_held (st n) ≡ true → is_finished (st m) ≡ true

module _ {H K V : Type 0} (x : Suite H K V) where
  -- a child of a node, on the path of another
  pub record Child (a e : ℕ) : Type 0 where
    pub child : ℕ
    pub nonzero : child ≡ 0 → ⊥
    pub under : x.parent child ≡ a
    pub on : On x child e

  pub on_split : {d n : ℕ} → On x d n → (d ≡ n) ⊎ ((n ≡ 0 → ⊥) × On x d (x.parent n))
  on_split same = inl refl
  on_split (up nz on) = inr (nz, on)

  child_above : (a n : ℕ) → (n ≡ 0 → ⊥) → (a ≡ x.parent n) ⊎ Child a (x.parent n) → Child a n
  child_above a n nz (inl e) = record { child = n; nonzero = nz; under = sym e; on = same }
  child_above a n nz (inr c) = record { child = c.child; nonzero = c.nonzero; under = c.under; on = up nz c.on }

  pub step_down : {a e : ℕ} → On x a e → (a ≡ e) ⊎ Child a e
  step_down same = inl refl
  step_down {a} {e} (up nz on) = inr (child_above a e nz (step_down on))

module _ {H K V B F R : Type 0} (l : Language H K V B F R) (x : Suite H K V) (plan : SuiteLaws l x) where
  pub on_le : {d n : ℕ} → On x d n → d ≤ n
  on_le {d} same = le_refl d
  on_le {d} {n} (up nz on) = let a = on_le on in let b = plan.below n nz in omega arith

  pub nothing_above_root : {d : ℕ} → On x d 0 → d ≡ 0
  nothing_above_root {d} on = let a = on_le on in omega arith

module _ {H K V B F R : Type 0} (l : Language H K V B F R) (x : Suite H K V) (plan : SuiteLaws l x) (laws : BodyLaws l) (st : ℕ → Status B F R) (locked : Locked x st) where
  pub above : {d n : ℕ} → On x d n → is_held (st n) ≡ true → is_held (st d) ≡ true
  above same h = h
  above {d} {n} (up nz on) h = above on (open_held (st (x.parent n)) (locked.tree n nz h))

  pub above_open : {d n : ℕ} → On x d n → is_open (st n) ≡ true → is_open (st d) ≡ true
  above_open same o = o
  above_open {d} {n} (up nz on) o = above_open on (locked.tree n nz (open_held (st n) o))

  -- what stands above an entered node is open
  pub strictly_above : {d n : ℕ} → On x d n → (d ≡ n → ⊥) → is_held (st n) ≡ true → is_open (st d) ≡ true
  strictly_above same ne h = absurd (ne refl)
  strictly_above {d} {n} (up nz on) ne h = above_open on (locked.tree n nz h)

  siblings : (a b : ℕ) → (a ≡ 0 → ⊥) → (b ≡ 0 → ⊥) → x.parent a ≡ x.parent b → x.is_same_thread a ≡ true → x.is_same_thread b ≡ true
      → is_held (st a) ≡ true → is_held (st b) ≡ true → (a < b) ⊎ (b < a) → ⊥
  siblings a b za zb p sa sb ha hb (inl lt) = finished_unheld (st a) (locked.order a b lt za p sa sb hb) ha
  siblings a b za zb p sa sb ha hb (inr lt) = finished_unheld (st b) (locked.order b a lt zb (sym p) sb sa ha) hb

  two_ways : (a b : ℕ) → (a ≡ b → ⊥) → (a < b) ⊎ (b < a)
  two_ways a b ne = grind arith

  -- under a node that takes a key for READ_WRITE, two entered nodes stand on one path
  pub line : (w : ℕ) (k : K) → x.takes_write w k ≡ true → {d e : ℕ} → On x w d → On x w e → is_held (st d) ≡ true → is_held (st e) ≡ true → On x d e ⊎ On x e d
  line w k t {d} {e} same one hd he = inl one
  line w k t {d} {e} (up nz on) one hd he =
      let hp = open_held (st (x.parent d)) (locked.tree d nz hd) in
      elim (line w k t on one hp he) [
        | inr q ↦ inr (up nz q)
        | inl q ↦ elim (step_down x q) [
          | inl met ↦ inr (up nz (subst (λ (j : ℕ). On x e j) (sym met) same))
          | inr c ↦ elim (equal_or_not c.child d) [
            | inl e1 ↦ inl (subst (λ (j : ℕ). On x j e) e1 c.on)
            | inr ne ↦
                let below_d = plan.below d nz in
                let below_c = plan.below c.child c.nonzero in
                let low = on_le l x plan on in
                let above_c = subst (λ (j : ℕ). On x w j) (sym c.under) on in
                let low_c = on_le l x plan above_c in
                absurd (siblings c.child d c.nonzero nz c.under
                (plan.forced w c.child k t (up c.nonzero above_c) (λ z. let z1 : w ≡ c.child = z in omega arith))
                (plan.forced w d k t (up nz on) (λ z. let z1 : w ≡ d = z in omega arith))
                (above c.on he) hd (two_ways c.child d ne))
          ]
        ]
      ]

  -- the isolation of entered nodes
  pub isolated : (d e : ℕ) (k : K) → may_write l x d k ≡ true → may_read l x e k ≡ true → is_held (st d) ≡ true → is_held (st e) ≡ true → On x d e ⊎ On x e d
  isolated d e k w r hd he =
      let c = plan.covered d k (laws.rights.write_reads (chain x d) k w) in
      let c2 = plan.covered e k r in
      elim (equal_or_not c.by c2.by) [
        | inl eq ↦ line c.by k (c.write w) c.on (subst (λ (j : ℕ). On x j e) (sym eq) c2.on) hd he
        | inr ne ↦ absurd (locked.apart c.by c2.by ne (above c.on hd) (above c2.on he) (record { key = k; left = c.takes; right = c2.takes; write = inl (c.write w) }))
      ]
