-- Openings along a path.
use Rattle.std.proofs.Common.{◌≡◌, ℕ, List, [], ◌∷◌, map, Bool, true, false, cond, inl, inr, refl, sym, ap, subst, ◌∙◌}
use Rattle.iso_isolation.specs.Languages.{Language, BodyLaws}
use Rattle.iso_isolation.specs.Suites.{Suite, On, same, up, chain, may_write, SuiteLaws}
use Rattle.iso_isolation.specs.Alone.{Opening, opened, entered, closed, opening, test_alone, class_alone, run_from}
use Rattle.iso_isolation.proofs.Changes.{equal_or_not, true_or_false}

-- the opening of a node's chain
abbrev pub opening_at : {H K V B F R : Type 0} → Language H K V B F R → Suite H K V → ℕ → Opening K V F
opening_at l x n = opening l (chain x n) x.start

-- what a node comes to on the whole start
abbrev pub defined : {H K V B F R : Type 0} → Language H K V B F R → Suite H K V → ℕ → R
defined l x n = run_from l (chain x n) x.start

module _ {H K V B F R : Type 0} (l : Language H K V B F R) (x : Suite H K V) (plan : SuiteLaws l x) (laws : BodyLaws l) where
  pub chain_is : (n : ℕ) → (n ≡ 0 → ⊥) → chain x n ≡ x.head n ∷ chain x (x.parent n)
  chain_is n nz = ap (map x.head) (plan.path n nz)

  pub chain_root : chain x 0 ≡ []
  chain_root = ap (map x.head) plan.root

  -- facts on a path, upwards: at the root, and from a node's parent to the node
  pub along : (P : ℕ → Type 0) → P 0 → ((n : ℕ) → (n ≡ 0 → ⊥) → P (x.parent n) → P n) → (n : ℕ) → P n
  along P zero_case more n = by (x.path n) n refl
    where
      by : (ns : List ℕ) (n : ℕ) → x.path n ≡ ns → P n
      by [] n e = elim (equal_or_not n 0) [
        | inl z ↦ subst P (sym z) zero_case
        | inr nz ↦ let e1 = plan.path n nz in absurd cc
      ]
      by (m ∷ ns) n e = elim (equal_or_not n 0) [
        | inl z ↦ subst P (sym z) zero_case
        | inr nz ↦ let e1 = plan.path n nz in let e2 : x.path (x.parent n) ≡ ns = cc in more n nz (by ns (x.parent n) e2)
      ]

  pub opens : (n : ℕ) → (n ≡ 0 → ⊥) → (opening_at l x (x.parent n)).well ≡ true
      → opening_at l x n ≡ opened l (opening_at l x (x.parent n)) (entered l (chain x n) (opening_at l x (x.parent n)))
  opens n nz w =
      let o = opening_at l x (x.parent n) in
      ap (λ (c : List H). opening l c x.start) (chain_is n nz)
      ∙ ap (λ (b : Bool). cond b (opened l o (entered l (x.head n ∷ chain x (x.parent n)) o)) o) w
      ∙ ap (λ (c : List H). opened l o (entered l c o)) (sym (chain_is n nz))

  pub stays_ill : (n : ℕ) → (n ≡ 0 → ⊥) → (opening_at l x (x.parent n)).well ≡ false → opening_at l x n ≡ opening_at l x (x.parent n)
  stays_ill n nz w =
      let o = opening_at l x (x.parent n) in
      ap (λ (c : List H). opening l c x.start) (chain_is n nz)
      ∙ ap (λ (b : Bool). cond b (opened l o (entered l (x.head n ∷ chain x (x.parent n)) o)) o) w

  -- under a barred class all openings are its own
  pub ill_under : {n m : ℕ} → On x n m → (opening_at l x n).well ≡ false → opening_at l x m ≡ opening_at l x n
  ill_under same w = refl
  ill_under {n} {m} (up nz on) w =
      let e = ill_under on w in
      stays_ill m nz (ap (λ (o : Opening K V F). o.well) e ∙ w) ∙ e

  pub inherits : (n : ℕ) (k : K) → (n ≡ 0 → ⊥) → may_write l x n k ≡ false → (opening_at l x n).content k ≡ (opening_at l x (x.parent n)).content k
  inherits n k nz w =
      let o = opening_at l x (x.parent n) in
      elim (true_or_false o.well) [
        | inl e ↦ ap (λ (j : Opening K V F). j.content k) (opens n nz e) ∙ laws.finish_writes (chain x n) (l.begin (chain x n) o.frames) o.content k w
        | inr e ↦ ap (λ (j : Opening K V F). j.content k) (stays_ill n nz e)
      ]

  -- the rights of a class are those of all that stands in it
  pub reads_inner : (n : ℕ) (k : K) → (n ≡ 0 → ⊥) → l.reads (chain x (x.parent n)) k ≡ true → l.reads (chain x n) k ≡ true
  reads_inner n k nz r = ap (λ (c : List H). l.reads c k) (chain_is n nz) ∙ laws.rights.inner_reads (x.head n) (chain x (x.parent n)) k r

  pub writes_inner : (n : ℕ) (k : K) → (n ≡ 0 → ⊥) → may_write l x (x.parent n) k ≡ true → may_write l x n k ≡ true
  writes_inner n k nz w = ap (λ (c : List H). l.writes c k) (chain_is n nz) ∙ laws.rights.inner_writes (x.head n) (chain x (x.parent n)) k w

  pub writes_down : {a n : ℕ} (k : K) → On x a n → may_write l x a k ≡ true → may_write l x n k ≡ true
  writes_down k same w = w
  writes_down {a} {n} k (up nz on) w = writes_inner n k nz (writes_down k on w)

  not_up : (n : ℕ) (k : K) → (n ≡ 0 → ⊥) → may_write l x n k ≡ false → may_write l x (x.parent n) k ≡ false
  not_up n k nz w = elim (true_or_false (may_write l x (x.parent n) k)) [
    | inl e ↦ let d = writes_inner n k nz e in absurd cc
    | inr e ↦ e
  ]

  -- what a chain may not change stands at its start
  pub unwritten : (n : ℕ) (k : K) → may_write l x n k ≡ false → (opening_at l x n).content k ≡ x.start k
  unwritten n k = along (λ (j : ℕ). may_write l x j k ≡ false → (opening_at l x j).content k ≡ x.start k)
      (λ w. ap (λ (c : List H). (opening l c x.start).content k) chain_root)
      (λ j nz up w. inherits j k nz w ∙ up (not_up j k nz w)) n

  -- what a test, a class, and a node under a barred class come to
  pub test_defined : (n : ℕ) → (n ≡ 0 → ⊥) → l.is_test (x.head n) ≡ true → (opening_at l x (x.parent n)).well ≡ true
      → defined l x n ≡ l.test_result (entered l (chain x n) (opening_at l x (x.parent n))).body
  test_defined n nz t w =
      let o = opening_at l x (x.parent n) in
      let hs = chain x (x.parent n) in
      ap (λ (c : List H). run_from l c x.start) (chain_is n nz)
      ∙ ap (λ (b : Bool). cond b (test_alone l (x.head n) hs x.start) (class_alone l (x.head n) hs x.start)) t
      ∙ ap (λ (b : Bool). cond b (l.test_result (entered l (x.head n ∷ hs) o).body) (l.blocked o.frames)) w
      ∙ ap (λ (c : List H). l.test_result (entered l c o).body) (sym (chain_is n nz))

  pub class_defined : (n : ℕ) → (n ≡ 0 → ⊥) → l.is_test (x.head n) ≡ false → (opening_at l x (x.parent n)).well ≡ true
      → defined l x n ≡ l.class_result (opening_at l x n).frames (closed l (chain x n) (opening_at l x n)).body
  class_defined n nz t w =
      let o = opening_at l x (x.parent n) in
      let hs = chain x (x.parent n) in
      let p = opened l o (entered l (x.head n ∷ hs) o) in
      ap (λ (c : List H). run_from l c x.start) (chain_is n nz)
      ∙ ap (λ (b : Bool). cond b (test_alone l (x.head n) hs x.start) (class_alone l (x.head n) hs x.start)) t
      ∙ ap (λ (b : Bool). cond b (l.class_result p.frames (closed l (x.head n ∷ hs) p).body) (l.blocked o.frames)) w
      ∙ ap (λ (c : List H). let q = opened l o (entered l c o) in l.class_result q.frames (closed l c q).body) (sym (chain_is n nz))
      ∙ ap (λ (q : Opening K V F). l.class_result q.frames (closed l (chain x n) q).body) (sym (opens n nz w))

  blocked_by : (b w : Bool) (r q s : R) → w ≡ false → cond b (cond w r s) (cond w q s) ≡ s
  blocked_by true w r q s e = ap (λ (t : Bool). cond t r s) e
  blocked_by false w r q s e = ap (λ (t : Bool). cond t q s) e

  pub blocked_defined : (n m : ℕ) → (m ≡ 0 → ⊥) → On x n (x.parent m) → (opening_at l x n).well ≡ false → defined l x m ≡ l.blocked (opening_at l x n).frames
  blocked_defined n m nz on ill =
      let e = ill_under on ill in
      let o = opening_at l x (x.parent m) in
      ap (λ (c : List H). run_from l c x.start) (chain_is m nz)
      ∙ blocked_by (l.is_test (x.head m)) o.well _ _ (l.blocked o.frames) (ap (λ (j : Opening K V F). j.well) e ∙ ill)
      ∙ ap (λ (j : Opening K V F). l.blocked j.frames) e
