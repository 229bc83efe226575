-- The tree of the nodes that are kept of a tree, where what a kept node stands in is kept.
use Rattle.std.proofs.Common.{◌≡◌, ℕ, zero, suc, ◌<◌, ◌≤◌, List, [], ◌∷◌, ◌++◌, codes, filter, length, map, get_or, Bool, true, false, ◌||◌, ◌&&◌, not, nat_lt, ◌==◌, cond, refl, sym, ap, ap₂, ◌∙◌, subst, arith}
use Rattle.std.proofs.lemmas.Bool.Decides.{nat_tests}
use Rattle.std.proofs.lemmas.Cmp.{nat_list_eq_equiv}
use Rattle.std.proofs.lemmas.List.{get_or-map, get_or_past, length-map}
use Rattle.std.specs.List.{list_any, range_with_len}
use Rattle.iso_model.specs.Chains.{ClassHead}
use Rattle.iso_model.specs.NameSets.{is_among}
use Rattle.iso_model.specs.Targets.{effective}
use Rattle.iso_plan.proofs.NumberLemmas.{map-agree, number-all, number-less, those-agree, those-are, those-at}
use Rattle.iso_plan.proofs.PathLemmas.{IsBelow, along, chain-step, eq_from, not-root, path-root, under-self, under-step}
use Rattle.iso_plan.proofs.PathTextLemmas.{path_text-root, path_text-step, text_in}
use Rattle.iso_plan.specs.KeyTable.{kind_marks}
use Rattle.iso_plan.specs.NodeChains.{chain_classes, class_heads, own_test, rights_with}
use Rattle.iso_plan.specs.Paths.{IsRooted, IsTree, is_class_or_test, is_root, is_test, is_under, nodes_under, parent, path, row_at}
use Rattle.iso_plan.specs.PathTexts.{path_text}
use Rattle.iso_plan.specs.SameNodes.{IsSameNode}
use Rattle.iso_plan.specs.KeptNodes.{is_chosen, is_kept, is_kept_by, number_among, renumbered, selection, those_below, those_of}
use Rattle.iso_plan.specs.Tree.{Kind, Row, root_row}

or-true : (b : Bool) → (b || true) ≡ true
or-true true = refl
or-true false = refl

-- what a kept node stands in is kept
pub record AreClosed (tree : List Row) (passes : ℕ → Bool) : Type 0 where
  pub root : passes 0 ≡ true
  pub up : (n : ℕ) → 0 < n → passes n ≡ true → passes (parent tree n) ≡ true

-- the row of a kept node
pub row-left : (tree : List Row) (passes : ℕ → Bool) (n : ℕ) → n < length tree → passes n ≡ true → row_at (those_of passes tree) (number_among passes n) ≡ renumbered passes (row_at tree n)
row-left tree passes n h e =
    let low = number-less passes n (length tree) h e in
    get_or-map (λ m. renumbered passes (row_at tree m)) (those_below passes (length tree)) (number_among passes n) 0 root_row low
    ∙ ap (λ m. renumbered passes (row_at tree m)) (those-at passes (length tree) n 0 h e)

module _ (tree : List Row) (t : IsTree tree) (passes : ℕ → Bool) (closed : AreClosed tree passes) where
  abbrev left : List Row
  left = those_of passes tree

  abbrev number : ℕ → ℕ
  number n = number_among passes n

  count : length left ≡ number (length tree)
  count = length-map (those_below passes (length tree)) (λ n. renumbered passes (row_at tree n))

  -- a kept node
  row-there : (n : ℕ) → n < length tree → passes n ≡ true → row_at left (number n) ≡ renumbered passes (row_at tree n)
  row-there n h e = row-left tree passes n h e

  parent-there : (n : ℕ) → n < length tree → passes n ≡ true → parent left (number n) ≡ number (parent tree n)
  parent-there n h e = ap (λ (r : Row). r.parent) (row-there n h e)

  within : (n : ℕ) → 0 < n → n < length tree → parent tree n < length tree
  within n pos h = let below = t.below n pos in omega arith

  -- a node of those that are left, and which it was
  pub record WasNode (n : ℕ) : Type 0 where
    pub was : ℕ
    pub pos : 0 < was
    pub inside : was < length tree
    pub kept : passes was ≡ true
    pub is : number was ≡ n

  pub was_node : (n : ℕ) → 0 < n → n < length left → WasNode n
  was_node n pos h =
      let low : n < number (length tree) = rw count at h in
      let m = get_or (those_below passes (length tree)) n 0 in
      let a = those-are passes (length tree) n 0 low in
      let some : 0 < m = elim (nat_lt 0 m) as (λ b. nat_lt 0 m ≡ b → 0 < m) [
        | true ↦ λ e. grind (arith, nat_tests)
        | false ↦ λ e. let none : m ≡ 0 = grind (arith, nat_tests) in let zero_number : number m ≡ 0 = ap number none in let is = a.number in absurd (omega arith)
      ] refl in
      record { was = m; pos = some; inside = a.within; kept = a.passed; is = a.number }

  row-of : (n : ℕ) (w : WasNode n) → row_at left n ≡ renumbered passes (row_at tree w.was)
  row-of n w = ap (row_at left) (sym w.is) ∙ row-there w.was w.inside w.kept

  pub parent-of : (n : ℕ) (w : WasNode n) → parent left n ≡ number (parent tree w.was)
  parent-of n w = ap (λ (r : Row). r.parent) (row-of n w)

  above-of : (n : ℕ) (w : WasNode n) → row_at left (parent left n) ≡ renumbered passes (row_at tree (parent tree w.was))
  above-of n w = ap (row_at left) (parent-of n w) ∙ row-there (parent tree w.was) (within w.was w.pos w.inside) (closed.up w.was w.pos w.kept)

  below-left : (n : ℕ) (w : WasNode n) → parent left n < n
  below-left n w =
      let less = number-less passes (parent tree w.was) w.was (t.below w.was w.pos) (closed.up w.was w.pos w.kept) in
      let up = parent-of n w in
      let is = w.is in
      omega arith

  -- where a fact of nodes holds past the last one, it need be shown of those that are left alone
  by_place : (P : ℕ → Type 0) (n : ℕ) → 0 < n → (WasNode n → P n) → (length left ≤ n → P n) → P n
  by_place P n pos known past =
      elim (nat_lt n (length left)) as (λ b. nat_lt n (length left) ≡ b → P n) [
        | true ↦ λ e. let less : n < length left = grind (arith, nat_tests) in known (was_node n pos less)
        | false ↦ λ e. past (grind (arith, nat_tests))
      ] refl

  row-past : (n : ℕ) → length left ≤ n → row_at left n ≡ root_row
  row-past n past = get_or_past left n root_row past

  some-left : 0 < length left
  some-left = let less = number-less passes 0 (length tree) t.rooted closed.root in rw count (omega arith)

  root-left : row_at left 0 ≡ root_row
  root-left = row-there 0 t.rooted closed.root ∙ ap (renumbered passes) t.root_is

  below-all : (n : ℕ) → 0 < n → parent left n < n
  below-all n pos =
      by_place (λ m. parent left m < m) n pos (below-left n)
      (λ past. let up : parent left n ≡ 0 = ap (λ (r : Row). r.parent) (row-past n past) in omega arith)

  inner-past : (n : ℕ) → length left ≤ n → is_test (row_at left (parent left n)).kind ≡ false
  inner-past n past =
      ap (λ (p : ℕ). is_test (row_at left p).kind) (ap (λ (r : Row). r.parent) (row-past n past)) ∙ ap (λ (r : Row). is_test r.kind) root-left

  pub left-is-tree : IsTree left
  left-is-tree = record {
    rooted = some-left;
    root_is = root-left;
    below = below-all;
    inner = λ n pos. by_place (λ m. is_test (row_at left (parent left m)).kind ≡ false) n pos
        (λ w. ap (λ (r : Row). is_test r.kind) (above-of n w) ∙ t.inner w.was w.pos) (inner-past n);
    full = λ n pos h. let w = was_node n pos h in ap (λ (r : Row). is_class_or_test r.kind) (row-of n w) ∙ t.full w.was w.pos w.inside;
    marked = λ n pos h.
        let w = was_node n pos h in
        ap (λ (r : Row). kind_marks r.kind) (row-of n w) ∙ t.marked w.was w.pos w.inside
        ∙ sym (λ i. effective (above-of n w i).written (row-of n w i).written);
  }

  number-pos : (n : ℕ) → 0 < n → 0 < number n
  number-pos n pos = let less = number-less passes 0 n pos closed.root in omega arith

  kind-there : (n : ℕ) → n < length tree → passes n ≡ true → (row_at left (number n)).kind ≡ (row_at tree n).kind
  kind-there n h e = ap (λ (r : Row). r.kind) (row-there n h e)

  pub chain-there : (n : ℕ) → n < length tree → passes n ≡ true → chain_classes left (number n) ≡ chain_classes tree n
  chain-there =
      along tree t.below (λ n. n < length tree → passes n ≡ true → chain_classes left (number n) ≡ chain_classes tree n)
      (λ h e. rw (path-root left, path-root tree) refl)
      (λ n pos ih h e.
      chain-step left below-all (number n) (number-pos n pos)
      ∙ ap₂ (λ (k : Kind) (p : ℕ). class_heads k ++ chain_classes left p) (kind-there n h e) (parent-there n h e)
      ∙ ap (λ (cs : List ClassHead). class_heads (row_at tree n).kind ++ cs) (ih (within n pos h) (closed.up n pos e))
      ∙ sym (chain-step tree t.below n pos))

  -- a class that is kept has number 0 only where it is the root
  root-stays : (p : ℕ) → passes p ≡ true → (number p == 0) ≡ (p == 0)
  root-stays zero e = refl
  root-stays (suc p) e = let some = number-pos (suc p) (omega arith) in grind (arith, nat_tests)

  pub text-there : (n : ℕ) → n < length tree → passes n ≡ true → path_text left (number n) ≡ path_text tree n
  text-there =
      along tree t.below (λ n. n < length tree → passes n ≡ true → path_text left (number n) ≡ path_text tree n)
      (λ h e. path_text-root left ∙ sym (path_text-root tree))
      (λ n pos ih h e.
      let p = parent tree n in
      let name = (row_at tree n).name in
      let kept = closed.up n pos e in
      path_text-step left below-all (number n) (number-pos n pos)
      ∙ ap₂ (λ (m : ℕ) (r : Row). text_in m (path_text left m) r.name) (parent-there n h e) (row-there n h e)
      ∙ ap₂ (λ (b : Bool) (above : List ℕ). cond b name (above ++ (codes "." ++ name))) (root-stays p kept) (ih (within n pos h) kept)
      ∙ sym (path_text-step tree t.below n pos))

  pub same-node : (n : ℕ) → n < length tree → passes n ≡ true → IsSameNode tree n left (number n)
  same-node n h e =
      let kind = kind-there n h e in
      let chain = chain-there n h e in
      record {
        path = sym (text-there n h e);
        classes = sym chain;
        test = sym (ap own_test kind);
        rights = sym (ap₂ rights_with kind chain);
      }

up_by : (tree : List Row) → IsBelow tree → (n : ℕ) → 0 < n → 0 < parent tree n → (m : ℕ) → 0 < m
    → (is_under tree n (parent tree m) ≡ true → is_under tree (parent tree n) (parent tree m) ≡ true) → (e : Bool) → (m == n) ≡ e → is_under tree n m ≡ true → is_under tree (parent tree n) m ≡ true
up_by tree b n pos above m low ih true e h =
    let same : m ≡ n = eq_from m n e in
    let own : is_under tree (parent tree n) (parent tree m) ≡ true = ap (λ (k : ℕ). is_under tree (parent tree n) (parent tree k)) same ∙ under-self tree b (parent tree n) above in
    under-step tree b (parent tree n) m low ∙ ap (λ (o : Bool). (m == parent tree n) || o) own ∙ or-true (m == parent tree n)
up_by tree b n pos above m low ih false e h =
    let lower : is_under tree n (parent tree m) ≡ true = sym (under-step tree b n m low ∙ ap (λ (o : Bool). o || is_under tree n (parent tree m)) e) ∙ h in
    under-step tree b (parent tree n) m low ∙ ap (λ (o : Bool). (m == parent tree n) || o) (ih lower) ∙ or-true (m == parent tree n)

-- what stands in a node stands in the one that this stands in
under-up : (tree : List Row) → IsBelow tree → (n : ℕ) → 0 < n → 0 < parent tree n → (m : ℕ) → is_under tree n m ≡ true → is_under tree (parent tree n) m ≡ true
under-up tree b n pos above =
    along tree b (λ m. is_under tree n m ≡ true → is_under tree (parent tree n) m ≡ true)
    (λ h. let no : false ≡ true = rw (path-root tree) at h in absurd (cc))
    (λ m low ih h. up_by tree b n pos above m low ih (m == n) refl h)

any_more : (test p q : ℕ → Bool) → ((k : ℕ) → p k ≡ true → q k ≡ true) → (k : ℕ) (ks : List ℕ)
    → (list_any test (filter p ks) ≡ true → list_any test (filter q ks) ≡ true) → (a b : Bool) → p k ≡ a → q k ≡ b
    → list_any test (cond a (k ∷ filter p ks) (filter p ks)) ≡ true → list_any test (cond b (k ∷ filter q ks) (filter q ks)) ≡ true
any_more test p q more k ks ih true true pa qb h =
    elim (test k) as (λ t. (t || list_any test (filter p ks)) ≡ true → (t || list_any test (filter q ks)) ≡ true) [ true ↦ λ _. refl | false ↦ ih ] h
any_more test p q more k ks ih true false pa qb h = let yes : q k ≡ true = more k pa in absurd (cc)
any_more test p q more k ks ih false true pa qb h = ap (λ (o : Bool). test k || o) (ih h) ∙ or-true (test k)
any_more test p q more k ks ih false false pa qb h = ih h

-- what is found among fewer is found among more
any-more : (test p q : ℕ → Bool) → ((k : ℕ) → p k ≡ true → q k ≡ true) → (ks : List ℕ) → list_any test (filter p ks) ≡ true → list_any test (filter q ks) ≡ true
any-more test p q more [] h = h
any-more test p q more (k ∷ ks) h = any_more test p q more k ks (any-more test p q more ks) (p k) (q k) refl refl h

up_kept : (tree : List Row) → IsBelow tree → (only : List (List ℕ)) (n p : ℕ) → parent tree n ≡ p → 0 < n → is_kept_by tree only n ≡ true → is_kept_by tree only p ≡ true
up_kept tree b only n zero is pos e = refl
up_kept tree b only n (suc p) is pos e =
    let some : list_any (is_chosen tree only) (nodes_under tree n) ≡ true = rw (not-root n pos) at e in
    let above : 0 < parent tree n = omega arith in
    any-more (is_chosen tree only) (is_under tree n) (is_under tree (suc p)) (λ m h. subst (λ (q : ℕ). is_under tree q m ≡ true) is (under-up tree b n pos above m h))
    (range_with_len 0 (length tree)) some

pub closed-below : (tree : List Row) → IsBelow tree → (only : List (List ℕ)) → AreClosed tree (is_kept_by tree only)
closed-below tree b only = record { root = refl; up = λ n pos e. up_kept tree b only n (parent tree n) refl pos e }

pub kept-closed : (tree : List Row) → IsTree tree → (only : List (List ℕ)) → AreClosed tree (is_kept_by tree only)
kept-closed tree t only = closed-below tree t.below only

-- the tree of the kept nodes is one
pub selection-is-tree : (tree : List Row) → IsTree tree → (only : List (List ℕ)) → IsTree (selection tree only)
selection-is-tree tree t [] = t
selection-is-tree tree t (p ∷ ps) = left-is-tree tree t (is_kept_by tree (p ∷ ps)) (kept-closed tree t (p ∷ ps))

same_by : (tree : List Row) (m n : ℕ) → n ≡ m → IsSameNode tree m tree n
same_by tree m n e = rw e (record { path = refl; classes = refl; test = refl; rights = refl })

-- each kept node is the same there
pub selection-same : (tree : List Row) → IsTree tree → (only : List (List ℕ)) (m : ℕ) → m < length tree
    → is_kept tree only m ≡ true → IsSameNode tree m (selection tree only) (number_among (is_kept tree only) m)
selection-same tree t [] m h e = same_by tree m (number_among (is_kept tree []) m) (number-all (is_kept tree []) (λ n. refl) m)
selection-same tree t (p ∷ ps) m h e = same-node tree t (is_kept_by tree (p ∷ ps)) (kept-closed tree t (p ∷ ps)) m h e

pub selection-by : (tree : List Row) (only : List (List ℕ)) → (length only == 0) ≡ false → those_of (is_kept_by tree only) tree ≡ selection tree only
selection-by tree [] h = let no : true ≡ false = h in absurd (cc)
selection-by tree (p ∷ ps) h = refl

pub parent-low : (rows : List Row) → IsRooted rows → (n : ℕ) → parent rows n ≤ n
parent-low rows r zero = let first = r.first in omega arith
parent-low rows r (suc n) = let below = r.below (suc n) (omega arith) in omega arith

-- tests that agree on nodes keep the same of them
pub those_of-agree : (tree : List Row) → IsRooted tree → (f g : ℕ → Bool) → ((n : ℕ) → n < length tree → f n ≡ g n) → those_of f tree ≡ those_of g tree
those_of-agree tree t f g same =
    ap (map (λ n. renumbered f (row_at tree n))) (those-agree f g (length tree) same)
    ∙ map-agree g (λ n. renumbered f (row_at tree n)) (λ n. renumbered g (row_at tree n)) (length tree)
    (λ n h.
    let low = parent-low tree t n in
    let number : number_among f (parent tree n) ≡ number_among g (parent tree n) = ap length (those-agree f g (parent tree n) (λ m less. same m (omega arith))) in
    λ i. record (row_at tree n) { parent = number i })

-- which nodes are kept depends on which paths are given alone
pub paths-alone : (tree : List Row) (only others : List (List ℕ)) → ((p : List ℕ) → is_among only p ≡ is_among others p) → selection tree only ≡ selection tree others
paths-alone tree [] [] h = refl
paths-alone tree [] (q ∷ qs) h = let wrong : false ≡ true = h q ∙ ap (λ (b : Bool). b || is_among qs q) (nat_list_eq_equiv.refl q) in absurd (cc)
paths-alone tree (p ∷ ps) [] h = let wrong : false ≡ true = sym (h p) ∙ ap (λ (b : Bool). b || is_among ps p) (nat_list_eq_equiv.refl p) in absurd (cc)
paths-alone tree (p ∷ ps) (q ∷ qs) h =
    λ i. those_of (λ n. is_root n || list_any (λ m. list_any (λ j. not (is_root j) && h (path_text tree j) i) (path tree m)) (nodes_under tree n)) tree
