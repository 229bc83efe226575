-- Where a node stands, and how far what stands in it goes.
use Rattle.std.proofs.Common.{◌≡◌, ◌⊎◌, ℕ, zero, suc, ◌+◌, ◌<◌, ◌≤◌, List, [], ◌∷◌, Bool, true, false, ◌||◌, ◌==◌, cond, get_or, set, replicate, length, inl, inr, refl, sym, ap, ◌∙◌, arith}
use Rattle.std.proofs.lemmas.Bool.{cases_eq, cases_lt}
use Rattle.std.proofs.lemmas.List.{get_or-set_other, get_or-set_same, length-replicate, length-set}
use Rattle.iso_plan.proofs.PathLemmas.{IsBelow, eq_from, eq_not, eq_same, path-root, under-le, under-self, under-step}
use Rattle.iso_plan.specs.Paths.{is_on, is_under, parent, path}
use Rattle.iso_plan.specs.Tree.{Row}
use Rattle.iso_why.specs.Reach.{IsReach}

pub not-under-root : (tree : List Row) (m : ℕ) → is_under tree m 0 ≡ false
not-under-root tree m = ap (λ ns. is_on ns m) (path-root tree)

-- what stands in a node with a smaller number stands there with its class
pub up-same : (tree : List Row) → IsBelow tree → (m n : ℕ) → m < n → is_under tree m (parent tree n) ≡ is_under tree m n
up-same tree b m n h =
    let apart : (n == m) ≡ false = eq_not n m (λ same. absurd (omega arith)) in
    sym (under-step tree b m n (omega arith) ∙ ap (λ (t : Bool). t || is_under tree m (parent tree n)) apart)

lower_by : (tree : List Row) → IsBelow tree → (m n : ℕ) → n < m → (t : Bool) → is_under tree m n ≡ t → false ≡ t
lower_by tree b m n h true e = let le = under-le tree b m n e in absurd (omega arith)
lower_by tree b m n h false e = refl

-- a node with no greater number stands in another only where it is that
pub rest-is : (tree : List Row) → IsBelow tree → (m n : ℕ) → 0 < m → n ≤ m → (n == m) ≡ is_under tree m n
rest-is tree b m n pos h =
    elim (cases_eq n m) [
      | inl same ↦
          let here : (n == m) ≡ true = ap (λ j. j == m) same ∙ eq_same m in
          here ∙ sym (ap (is_under tree m) same ∙ under-self tree b m pos)
      | inr other ↦ eq_not n m other ∙ lower_by tree b m n (omega arith) (is_under tree m n) refl
    ]

-- how far each node reaches, where those with a number below n are looked at
pub record Reaches (tree : List Row) (n : ℕ) (ends : List ℕ) : Type 0 where
  pub each : length ends ≡ length tree
  pub before : (m : ℕ) → get_or ends m 0 ≤ n
  pub past : (m j : ℕ) → j < n → is_under tree m j ≡ true → j < get_or ends m 0

abbrev pub zeros : ℕ → List ℕ
zeros count = replicate count 0

none_yet : 0 ≤ 1
none_yet = omega arith

zero_at : (count i : ℕ) → get_or (zeros count) i 0 ≤ 1
zero_at zero i = none_yet
zero_at (suc count) zero = none_yet
zero_at (suc count) (suc i) = zero_at count i

pub reach-start : (tree : List Row) (ends : List ℕ) → ends ≡ zeros (length tree) → Reaches tree 1 ends
reach-start tree ends e =
    record {
      each = ap length e ∙ length-replicate (length tree) _;
      before = λ m. let h = zero_at (length tree) m in rw e h;
      past = λ m j less under.
          let root : j ≡ 0 = omega arith in
          let no : false ≡ true = sym (ap (is_under tree m) root ∙ not-under-root tree m) ∙ under in
          absurd (cc);
    }

past_by : (tree : List Row) (n j : ℕ) (old new : List ℕ) (m : ℕ) → (j < n → j < get_or old m 0) → get_or old m 0 ≤ get_or new m 0 → (j ≡ n → n < get_or new m 0) → j < n + 1 → j < get_or new m 0
past_by tree n j old new m below grows here h =
    elim (cases_lt j n) [ inl less ↦ (let k = below less in omega arith) | inr more ↦ (let same : j ≡ n = omega arith in let k = here same in omega arith) ]

pub reach-more : (tree : List Row) (n : ℕ) (old new : List ℕ) → Reaches tree n old → length new ≡ length tree → ((m : ℕ) → get_or new m 0 ≤ n + 1)
    → ((m : ℕ) → get_or old m 0 ≤ get_or new m 0) → ((m : ℕ) → is_under tree m n ≡ true → n < get_or new m 0) → Reaches tree (n + 1) new
reach-more tree n old new h l before grows reached =
    record {
      each = l;
      before = before;
      past = λ m j less under. past_by tree n j old new m (λ k. h.past m j k under) (grows m) (λ same. reached m (ap (is_under tree m) (sym same) ∙ under)) less;
    }

pub reach-all : (tree : List Row) (n : ℕ) (ends : List ℕ) → n ≡ length tree → Reaches tree n ends → IsReach tree ends
reach-all tree n ends e h = record { each = h.each; past = λ m j less under. h.past m j (rw e less) under }

-- one path more: the nodes above it are still to come
pub record Climbs (tree : List Row) (last node : ℕ) (old now : List ℕ) : Type 0 where
  pub within : node ≤ last
  pub each : length now ≡ length old
  pub before : (m : ℕ) → get_or now m 0 ≤ last + 1
  pub grows : (m : ℕ) → get_or old m 0 ≤ get_or now m 0
  pub left : (m : ℕ) → is_under tree m last ≡ true → (last < get_or now m 0) ⊎ (is_under tree m node ≡ true)

pub climb-start : (tree : List Row) (last : ℕ) (old : List ℕ) → ((m : ℕ) → get_or old m 0 ≤ last) → Climbs tree last last old old
climb-start tree last old before =
    record { within = omega arith; each = refl; before = λ m. (let h = before m in omega arith); grows = λ m. omega arith; left = λ m h. inr h }

set_read : (xs : List ℕ) (i m x : ℕ) → i < length xs → (P : ℕ → Type 0) → (i ≡ m → P x) → ((i ≡ m → ⊥) → P (get_or xs m 0)) → P (get_or (set xs i x) m 0)
set_read xs i m x h P here other =
    elim (cases_eq i m) [
      | inl same ↦ (let e : get_or (set xs i x) m 0 ≡ x = ap (λ j. get_or (set xs i x) j 0) (sym same) ∙ get_or-set_same xs i x 0 h in rw e (here same))
      | inr apart ↦ rw (get_or-set_other xs i m x 0 (λ e. apart (sym e))) (other apart)
    ]

in_right : {A B C : Type 0} → A ⊎ B → (B → C) → A ⊎ C
in_right (inl a) f = inl a
in_right (inr b) f = inr (f b)

out_left : {A B : Type 0} → A ⊎ B → (B → A) → A
out_left (inl a) f = a
out_left (inr b) f = f b

up_left : (tree : List Row) → IsBelow tree → (m n : ℕ) → 0 < n → (i : n ≡ m → ⊥) → is_under tree m n ≡ true → is_under tree m (parent tree n) ≡ true
up_left tree b m n pos apart h = sym (under-step tree b m n pos ∙ ap (λ (t : Bool). t || is_under tree m (parent tree n)) (eq_not n m apart)) ∙ h

pub climb-more : (tree : List Row) → IsBelow tree → (last n : ℕ) (old now : List ℕ) → 0 < n → n < length now → Climbs tree last n old now → Climbs tree last (parent tree n) old (set now n (last + 1))
climb-more tree b last n old now pos inside h =
    record {
      within = let less : parent tree n < n = b n pos in let k = h.within in omega arith;
      each = length-set now n (last + 1) ∙ h.each;
      before = λ m. set_read now n m (last + 1) inside (λ x. x ≤ last + 1) (λ same. omega arith) (λ apart. h.before m);
      grows = λ m. set_read now n m (last + 1) inside (λ x. get_or old m 0 ≤ x) (λ same. let k = h.grows m in let j = h.before m in omega arith) (λ apart. h.grows m);
      left = λ m under. set_read now n m (last + 1) inside (λ x. (last < x) ⊎ (is_under tree m (parent tree n) ≡ true)) (λ same. inl (omega arith))
          (λ apart. in_right (h.left m under) (up_left tree b m n pos apart));
    }

pub climb-end : (tree : List Row) (last n : ℕ) (old now : List ℕ) → n ≤ 0 → Climbs tree last n old now → (m : ℕ) → is_under tree m last ≡ true → last < get_or now m 0
climb-end tree last n old now h k m under =
    out_left (k.left m under) (λ above.
    let root : n ≡ 0 = omega arith in
    let no : false ≡ true = sym (ap (is_under tree m) root ∙ not-under-root tree m) ∙ above in
    absurd (cc))
