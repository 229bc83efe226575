-- The suite of every tree keeps the laws of suites.
use Rattle.std.proofs.Common.{◌≡◌, ◌⊎◌, ℕ, zero, suc, ◌<◌, ◌≤◌, List, [], ◌∷◌, length, map, Option, Some, None, Bool, true, false, ◌||◌, ◌==◌, nat_lt, inl, inr, refl, sym, ap, ◌∙◌, subst, arith, bytes_eq}
use Rattle.std.proofs.lemmas.Bool.Decides.{nat_tests}
use Rattle.std.proofs.lemmas.List.{get_or_past}
use Rattle.std.specs.Cmp.Lexicographic.{bytes_decides}
use Rattle.std.specs.List.{list_any}
use Rattle.iso_suites.proofs.LanguageLaws.{readable-of, rights-cons}
use Rattle.iso_suites.specs.PlanSuites.{head_of, is_same_thread, suite_of}
use Rattle.iso_suites.specs.ScriptLanguage.{Head, marks_on, chain_rights, scripts}
use Rattle.iso_isolation.proofs.Locks.{on_split}
use Rattle.iso_isolation.specs.Suites.{Suite, On, same, up, Shared, Covered, chain, SuiteLaws}
use Rattle.iso_model.specs.Resources.{Resources}
use Rattle.iso_model.specs.Rights.{rights_of, strongest, is_readable, is_writable}
use Rattle.iso_model.specs.declared.access.Access.{Access}
use Rattle.iso_model.specs.declared.resource.Resource.{Resource}
use Rattle.iso_model.specs.declared.heads.Mark.{Mark}
use Rattle.iso_plan.proofs.LawLemmas.{rights-step, root-unreadable, covered, forced, taken-known, takes-only}
use Rattle.iso_plan.proofs.PathLemmas.{along, eq_from, path-root, path-step, under-self, under-step}
use Rattle.iso_plan.specs.KeyTable.{keys, kind_marks}
use Rattle.iso_plan.specs.Locks.{conflict, declared, declares, exclude, is_locking, is_that, taken}
use Rattle.iso_plan.specs.NodeChains.{heads_on, node_rights, rights_with}
use Rattle.iso_plan.specs.Paths.{IsTree, is_on, is_top, is_under, outermost, parent, path, row_at}
use Rattle.iso_plan.specs.Tree.{Kind, root, class_node, test_node, Row, root_row}
use Rattle.iso_settings.specs.declared.settings.Settings.{Settings}

pub positive : (n : ℕ) → (n ≡ 0 → ⊥) → 0 < n
positive zero nz = absurd (nz refl)
positive (suc n) nz = omega arith

nonzero : (n : ℕ) → 0 < n → n ≡ 0 → ⊥
nonzero n pos e = absurd (omega arith)

marks-written : (kind : Kind) → marks_on (head_of kind) ≡ kind_marks kind
marks-written root = refl
marks-written (class_node isolated head) = refl
marks-written (test_node head) = refl

or_left : (a b : Bool) → a ≡ true → (a || b) ≡ true
or_left a b h = ap (λ (x : Bool). x || b) h

or_last : (a b : Bool) → b ≡ true → (a || b) ≡ true
or_last true b h = refl
or_last false b h = h

-- two accesses of which one is for READ_WRITE exclude each other
excludes : (a b : Option Access) → is_readable a ≡ true → is_readable b ≡ true → (is_writable a ≡ true) ⊎ (is_writable b ≡ true) → exclude a b ≡ true
excludes None b ra rb w = let wrong : false ≡ true = ra in absurd (cc)
excludes (Some a) None ra rb w = let wrong : false ≡ true = rb in absurd (cc)
excludes (Some a) (Some b) ra rb (inl w) = or_left (is_writable (Some a)) (is_writable (Some b)) w
excludes (Some a) (Some b) ra rb (inr w) = or_last (is_writable (Some a)) (is_writable (Some b)) w

-- what holds of a key among keys holds of one of them
has_by : (test : List ℕ → Bool) (k j : List ℕ) (ks : List (List ℕ)) → test k ≡ true → (t : Bool) → bytes_eq k j ≡ t
    → (t || list_any (bytes_eq k) ks) ≡ true → (list_any (bytes_eq k) ks ≡ true → list_any test ks ≡ true) → (test j || list_any test ks) ≡ true
has_by test k j ks h true e known ih = or_left (test j) (list_any test ks) (ap test (sym ((bytes_decides k j).0 e)) ∙ h)
has_by test k j ks h false e known ih = or_last (test j) (list_any test ks) (ih known)

has : (test : List ℕ → Bool) (k : List ℕ) (ks : List (List ℕ)) → test k ≡ true → list_any (bytes_eq k) ks ≡ true → list_any test ks ≡ true
has test k [] h known = known
has test k (j ∷ ks) h known = has_by test k j ks h (bytes_eq k j) refl known (has test k ks h)

module _ (tree : List Row) (t : IsTree tree) (settings : Settings) (start : Resources) where
  abbrev x : Suite Head (List ℕ) Resource
  x = suite_of tree settings start

  path-of : (n : ℕ) → (n ≡ 0 → ⊥) → path tree n ≡ n ∷ path tree (parent tree n)
  path-of n nz = path-step tree t.below n (positive n nz)

  -- the rights of a chain are those of its node
  rights-more : (n : ℕ) (k : List ℕ) → 0 < n → chain_rights (chain x (parent tree n)) k ≡ node_rights tree (parent tree n) k → chain_rights (chain x n) k ≡ node_rights tree n k
  rights-more n k pos h =
      ap (λ (ns : List ℕ). chain_rights (map x.head ns) k) (path-step tree t.below n pos)
      ∙ rights-cons (head_of (row_at tree n).kind) (chain x (parent tree n)) k
      ∙ ap (λ (ms : List Mark). strongest (rights_of ms k) (chain_rights (chain x (parent tree n)) k)) (marks-written (row_at tree n).kind)
      ∙ ap (strongest (declared tree n k)) h
      ∙ sym (rights-step tree t n k pos)

  none-above : (k : List ℕ) → chain_rights (chain x 0) k ≡ node_rights tree 0 k
  none-above k =
      ap (λ (ns : List ℕ). chain_rights (map x.head ns) k) (path-root tree)
      ∙ sym (ap (λ (ns : List ℕ). rights_with root (heads_on tree ns) k) (path-root tree))
      ∙ sym (ap (λ (r : Row). rights_with r.kind (heads_on tree (path tree 0)) k) t.root_is)

  pub chain-rights : (k : List ℕ) (n : ℕ) → chain_rights (chain x n) k ≡ node_rights tree n k
  chain-rights k = along tree t.below (λ n. chain_rights (chain x n) k ≡ node_rights tree n k) (none-above k) (λ n pos h. rights-more n k pos h)

  -- what stands in a node stands at or below it
  on-by : (m n : ℕ) → 0 < n → (is_under tree m (parent tree n) ≡ true → On x m (parent tree n)) → (b : Bool) → (n == m) ≡ b → (b || is_under tree m (parent tree n)) ≡ true → On x m n
  on-by m n pos h true e u = subst (λ (j : ℕ). On x m j) (sym (eq_from n m e)) same
  on-by m n pos h false e u = up (nonzero n pos) (h u)

  under-on : (m n : ℕ) → is_under tree m n ≡ true → On x m n
  under-on m =
      along tree t.below (λ n. is_under tree m n ≡ true → On x m n)
      (λ u. let wrong : false ≡ true = sym (ap (λ (ns : List ℕ). is_on ns m) (path-root tree)) ∙ u in absurd (cc))
      (λ n pos h u. on-by m n pos h (n == m) refl (sym (under-step tree t.below m n pos) ∙ u))

  pub on-under : (m : ℕ) → 0 < m → {n : ℕ} → On x m n → is_under tree m n ≡ true
  on-under m pos same = under-self tree t.below m pos
  on-under m pos {n} (up nz on) =
      under-step tree t.below m n (positive n nz) ∙ or_last (n == m) (is_under tree m (parent tree n)) (on-under m pos on)

  -- the root takes nothing, and a number past the nodes has no rights
  pub root-takes : (k : List ℕ) → is_readable (taken tree 0 k) ≡ true → ⊥
  root-takes k r =
      let locks : is_locking tree 0 ≡ false = ap (λ (ns : List ℕ). is_that (outermost (declares tree) ns) 0) (path-root tree) in
      let wrong : false ≡ true = sym (ap (λ (b : Bool). b || is_top tree 0) locks) ∙ takes-only tree 0 k r in
      absurd (cc)

  past-rights : (n : ℕ) (k : List ℕ) → 0 < n → length tree ≤ n → is_readable (node_rights tree n k) ≡ false
  past-rights n k pos past =
      let here : row_at tree n ≡ root_row = get_or_past tree n root_row past in
      ap is_readable (rights-step tree t n k pos)
      ∙ ap (λ (r : Row). is_readable (strongest (rights_of (kind_marks r.kind) k) (node_rights tree r.parent k))) here
      ∙ root-unreadable tree t k

  covered-in : (n : ℕ) (k : List ℕ) → 0 < n → n < length tree → is_readable (node_rights tree n k) ≡ true → Covered scripts x n k
  covered-in n k pos inside r =
      let c = covered tree t n k pos inside r in
      record {
        by = c.taker;
        on = under-on c.taker n c.above;
        takes = c.reads;
        write = λ w. c.writes (ap is_writable (sym (chain-rights k n)) ∙ w);
      }

  covered-by : (n : ℕ) (k : List ℕ) → 0 < n → is_readable (node_rights tree n k) ≡ true → (b : Bool) → nat_lt n (length tree) ≡ b → Covered scripts x n k
  covered-by n k pos r true e = covered-in n k pos (grind (arith, nat_tests)) r
  covered-by n k pos r false e =
      let past : length tree ≤ n = grind (arith, nat_tests) in
      let wrong : false ≡ true = sym (past-rights n k pos past) ∙ r in
      absurd (cc)

  covered-at : (n : ℕ) (k : List ℕ) → is_readable (node_rights tree n k) ≡ true → Covered scripts x n k
  covered-at zero k r = let wrong : false ≡ true = sym (root-unreadable tree t k) ∙ r in absurd (cc)
  covered-at (suc n) k r = covered-by (suc n) k (omega arith) r (nat_lt (suc n) (length tree)) refl

  forced-by : (m n : ℕ) (k : List ℕ) → is_writable (taken tree m k) ≡ true → (m ≡ n) ⊎ ((n ≡ 0 → ⊥) × On x m (parent tree n)) → (m ≡ n → ⊥) → x.is_same_thread n ≡ true
  forced-by m n k w (inl e) ne = absurd (ne e)
  forced-by zero n k w (inr on) ne = absurd (root-takes k (readable-of (taken tree 0 k) w))
  forced-by (suc m) n k w (inr on) ne = ap is_same_thread (forced tree t settings (suc m) n k (on-under (suc m) (omega arith) on.1) w)

  shared : (m n : ℕ) → Shared x m n → conflict tree m n ≡ true
  shared m n s =
      has (λ (k : List ℕ). exclude (taken tree m k) (taken tree n k)) s.key (keys tree)
      (excludes (taken tree m s.key) (taken tree n s.key) s.left s.right s.write) (taken-known tree t m s.key s.left)

  pub suite-laws : SuiteLaws scripts x
  suite-laws = record {
    root = path-root tree;
    path = path-of;
    below = λ n nz. t.below n (positive n nz);
    write_takes = λ n k w. readable-of (taken tree n k) w;
    conflicts = shared;
    covered = λ n k r. covered-at n k (ap is_readable (sym (chain-rights k n)) ∙ r);
    forced = λ m n k w on ne. forced-by m n k w (on_split x on) ne;
  }
