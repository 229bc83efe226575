-- Tests that repeat the one before them: they take what it takes.
use Rattle.std.proofs.Common.{◌≡◌, ℕ, zero, suc, ◌-◌, ◌<◌, ◌≤◌, List, Option, Some, None, Bool, true, false, ◌||◌, ◌&&◌, ◌==◌, cond, length, map, not, bytes_eq, refl, sym, ap, ap₂, ◌∙◌, arith}
use Rattle.std.proofs.lemmas.Bool.Decides.{nat_tests}
use Rattle.std.specs.Option.{option_or}
use Rattle.iso_model.proofs.RightsLemmas.{strongest-assoc, strongest-none}
use Rattle.iso_model.specs.Rights.{rights_of, strongest}
use Rattle.iso_model.specs.ResourceKeys.{global_key}
use Rattle.iso_model.specs.Targets.{effective}
use Rattle.iso_model.specs.declared.access.Access.{Access}
use Rattle.iso_model.specs.declared.access.Access.TheVariants.{Read, Write}
use Rattle.iso_model.specs.declared.heads.Mark.{Mark}
use Rattle.iso_plan.proofs.LockLemmas.{locking-le, locking-locks, taken-other, taken-same, that-is, that-self, under-locking}
use Rattle.iso_plan.proofs.PathLemmas.{along, eq_from, eq_not, eq_same, not-root, path-root, path-step, under-self}
use Rattle.iso_plan.proofs.SoFar.{all-gathered, all-isolate, gathered_below, isolates_below, taken_below}
use Rattle.iso_plan.specs.KeyTable.{keys}
use Rattle.iso_plan.specs.Locks.{declared, declares, effective_marks, gathered, global_access, holds_isolated, is_isolated, is_locking, is_that, isolates, locking_node, locks, locks_from, marks_global, taken}
use Rattle.iso_plan.specs.Paths.{IsTree, is_root, is_test, is_top, is_under, outermost, parent, row_at}
use Rattle.iso_plan.specs.Repeated.{Repeats}
use Rattle.iso_plan.specs.Tree.{Kind, root, class_node, test_node, Row}

-- two tests of one class with the same written marks
pub record AreLike (tree : List Row) (a b : ℕ) : Type 0 where
  pub below : a < length tree
  pub within : b < length tree
  pub some : 0 < a
  pub more : 0 < b
  pub first : is_test (row_at tree a).kind ≡ true
  pub second : is_test (row_at tree b).kind ≡ true
  pub class : parent tree a ≡ parent tree b
  pub written : (row_at tree a).written ≡ (row_at tree b).written

leaf_by : (tree : List Row) → IsTree tree → (m n : ℕ) → is_test (row_at tree m).kind ≡ true → 0 < n → (is_under tree m (parent tree n) ≡ true → parent tree n ≡ m)
    → (t : Bool) → (n == m) ≡ t → is_under tree m n ≡ true → n ≡ m
leaf_by tree t m n test pos ih true e h = eq_from n m e
leaf_by tree t m n test pos ih false e h =
    let above : is_under tree m (parent tree n) ≡ true = rw (path-step tree t.below n pos, e) at h in
    let up : parent tree n ≡ m = ih above in
    let wrong : false ≡ true = sym (t.inner n pos) ∙ ap (λ (j : ℕ). is_test (row_at tree j).kind) up ∙ test in
    absurd (cc)

-- a test stands alone in itself
pub leaf : (tree : List Row) → IsTree tree → (m n : ℕ) → is_test (row_at tree m).kind ≡ true → is_under tree m n ≡ true → n ≡ m
leaf tree t m n test =
    along tree t.below (λ j. is_under tree m j ≡ true → j ≡ m)
    (λ h. let no : false ≡ true = rw (path-root tree) at h in absurd (cc))
    (λ j pos ih h. leaf_by tree t m j test pos ih (j == m) refl h) n

apart_by : (tree : List Row) → IsTree tree → (m n : ℕ) → is_test (row_at tree m).kind ≡ true → (n ≡ m → ⊥) → (u : Bool) → is_under tree m n ≡ u → is_under tree m n ≡ false
apart_by tree t m n test apart true e = absurd (apart (leaf tree t m n test e))
apart_by tree t m n test apart false e = e

under_other : (tree : List Row) → IsTree tree → (m n : ℕ) → is_test (row_at tree m).kind ≡ true → (n ≡ m → ⊥) → is_under tree m n ≡ false
under_other tree t m n test apart = apart_by tree t m n test apart (is_under tree m n) refl

gathered_before : (tree : List Row) → IsTree tree → (m : ℕ) (k : List ℕ) (n : ℕ) → is_test (row_at tree m).kind ≡ true → n ≤ m → gathered_below tree m k n ≡ None
gathered_before tree t m k zero test h = refl
gathered_before tree t m k (suc n) test h =
    ap₂ (λ (u : Bool) (g : Option Access). strongest (cond u (declared tree n k) None) g) (under_other tree t m n test (λ e. absurd (omega arith))) (gathered_before tree t m k n test (omega arith))

less_from : (m n : ℕ) → m < suc n → (n ≡ m → ⊥) → m < n
less_from m n h apart = grind (arith, nat_tests)

gathered_by : (tree : List Row) → IsTree tree → (m : ℕ) (k : List ℕ) (n : ℕ) → is_test (row_at tree m).kind ≡ true → 0 < m → m < suc n
    → (m < n → gathered_below tree m k n ≡ declared tree m k) → (t : Bool) → (n == m) ≡ t → gathered_below tree m k (suc n) ≡ declared tree m k
gathered_by tree t m k n test pos h ih true e =
    let same : n ≡ m = eq_from n m e in
    let own : is_under tree m n ≡ true = ap (is_under tree m) same ∙ under-self tree t.below m pos in
    ap₂ (λ (u : Bool) (g : Option Access). strongest (cond u (declared tree n k) None) g) own (gathered_before tree t m k n test (omega arith))
    ∙ strongest-none (declared tree n k) ∙ ap (λ (j : ℕ). declared tree j k) same
gathered_by tree t m k n test pos h ih false e =
    let apart : n ≡ m → ⊥ = λ same. let yes : (n == m) ≡ true = ap (λ j. j == m) same ∙ eq_same m in absurd (cc) in
    let less : m < n = less_from m n h apart in
    ap₂ (λ (u : Bool) (g : Option Access). strongest (cond u (declared tree n k) None) g) (under_other tree t m n test apart) (ih less)

gathered_after : (tree : List Row) → IsTree tree → (m : ℕ) (k : List ℕ) (n : ℕ) → is_test (row_at tree m).kind ≡ true → 0 < m → m < n → gathered_below tree m k n ≡ declared tree m k
gathered_after tree t m k zero test pos h = absurd (omega arith)
gathered_after tree t m k (suc n) test pos h = gathered_by tree t m k n test pos h (gathered_after tree t m k n test pos) (n == m) refl

isolates_before : (tree : List Row) → IsTree tree → (m n : ℕ) → is_test (row_at tree m).kind ≡ true → n ≤ m → isolates_below tree m n ≡ false
isolates_before tree t m zero test h = refl
isolates_before tree t m (suc n) test h =
    ap₂ (λ (u b : Bool). (u && isolates tree n) || b) (under_other tree t m n test (λ e. absurd (omega arith))) (isolates_before tree t m n test (omega arith))

or_none : (b : Bool) → (b || false) ≡ b
or_none true = refl
or_none false = refl

isolates_by : (tree : List Row) → IsTree tree → (m n : ℕ) → is_test (row_at tree m).kind ≡ true → 0 < m → m < suc n
    → (m < n → isolates_below tree m n ≡ isolates tree m) → (t : Bool) → (n == m) ≡ t → isolates_below tree m (suc n) ≡ isolates tree m
isolates_by tree t m n test pos h ih true e =
    let same : n ≡ m = eq_from n m e in
    let own : is_under tree m n ≡ true = ap (is_under tree m) same ∙ under-self tree t.below m pos in
    ap₂ (λ (u b : Bool). (u && isolates tree n) || b) own (isolates_before tree t m n test (omega arith))
    ∙ or_none (isolates tree n) ∙ ap (isolates tree) same
isolates_by tree t m n test pos h ih false e =
    let apart : n ≡ m → ⊥ = λ same. let yes : (n == m) ≡ true = ap (λ j. j == m) same ∙ eq_same m in absurd (cc) in
    let less : m < n = less_from m n h apart in
    ap₂ (λ (u b : Bool). (u && isolates tree n) || b) (under_other tree t m n test apart) (ih less)

isolates_after : (tree : List Row) → IsTree tree → (m n : ℕ) → is_test (row_at tree m).kind ≡ true → 0 < m → m < n → isolates_below tree m n ≡ isolates tree m
isolates_after tree t m zero test pos h = absurd (omega arith)
isolates_after tree t m (suc n) test pos h = isolates_by tree t m n test pos h (isolates_after tree t m n test pos) (n == m) refl

test_apart : (kind : Kind) → is_test kind ≡ true → is_isolated kind ≡ false
test_apart root h = refl
test_apart (class_node isolated head) h = absurd (cc)
test_apart (test_node head) h = refl

-- such tests have the same effective marks
pub like-marks : (tree : List Row) → IsTree tree → (a b : ℕ) → AreLike tree a b → effective_marks tree a ≡ effective_marks tree b
like-marks tree t a b l =
    t.marked a l.some l.below ∙ ap₂ (λ (p : ℕ) (own : List Mark). effective (row_at tree p).written own) l.class l.written ∙ sym (t.marked b l.more l.within)

like_isolates : (tree : List Row) → IsTree tree → (a b : ℕ) → AreLike tree a b → isolates tree a ≡ isolates tree b
like_isolates tree t a b l =
    ap₂ (λ (i : Bool) (ms : List Mark). i || marks_global ms) (test_apart (row_at tree a).kind l.first ∙ sym (test_apart (row_at tree b).kind l.second)) (like-marks tree t a b l)

like_top : (tree : List Row) (a b : ℕ) → AreLike tree a b → is_top tree a ≡ is_top tree b
like_top tree a b l =
    ap₂ (λ (r : Bool) (p : ℕ). not r && is_root p) (not-root a l.some ∙ sym (not-root b l.more)) l.class

like_holds : (tree : List Row) → IsTree tree → (a b : ℕ) → AreLike tree a b → holds_isolated tree a ≡ holds_isolated tree b
like_holds tree t a b l =
    all-isolate tree a ∙ ap₂ (λ (top i : Bool). top && i) (like_top tree a b l)
    (isolates_after tree t a (length tree) l.first l.some l.below ∙ like_isolates tree t a b l ∙ sym (isolates_after tree t b (length tree) l.second l.more l.within))
    ∙ sym (all-isolate tree b)

like_declares : (tree : List Row) → IsTree tree → (a b : ℕ) → AreLike tree a b → declares tree a ≡ declares tree b
like_declares tree t a b l =
    ap₂ (λ (h m : Bool). h || m) (like_holds tree t a b l) (ap (λ (ms : List Mark). not (length ms == 0)) (like-marks tree t a b l))

locks_by : (n : ℕ) (d e : Bool) → d ≡ e → is_that (cond d (Some n) None) n ≡ e
locks_by n true e h = eq_same n ∙ h
locks_by n false e h = h

not_above : (j n : ℕ) → j < n → (j == n) ≡ false
not_above j n h = eq_not j n (λ same. absurd (omega arith))

locking_by : (tree : List Row) → IsTree tree → (a b p : ℕ) → p < a → p < b → declares tree a ≡ declares tree b → (o : Option ℕ) → locking_node tree p ≡ o
    → is_that (option_or o (cond (declares tree a) (Some a) None)) a ≡ is_that (option_or o (cond (declares tree b) (Some b) None)) b
locking_by tree t a b p less fewer same (Some j) e =
    let low : j ≤ p = locking-le tree t.below j p e in
    not_above j a (omega arith) ∙ sym (not_above j b (omega arith))
locking_by tree t a b p less fewer same None e = locks_by a (declares tree a) (declares tree b) same ∙ sym (locks_by b (declares tree b) (declares tree b) refl)

locking_at : (tree : List Row) → IsTree tree → (n : ℕ) → 0 < n → locking_node tree n ≡ option_or (locking_node tree (parent tree n)) (cond (declares tree n) (Some n) None)
locking_at tree t n pos = ap (outermost (declares tree)) (path-step tree t.below n pos)

-- both are locking nodes, or neither is
pub like-locking : (tree : List Row) → IsTree tree → (a b : ℕ) → AreLike tree a b → is_locking tree a ≡ is_locking tree b
like-locking tree t a b l =
    let p = parent tree b in
    let up : parent tree a < a = t.below a l.some in
    let less : p < a = rw (sym l.class) up in
    ap (λ (o : Option ℕ). is_that o a) (locking_at tree t a l.some ∙ ap (λ (q : ℕ). option_or (locking_node tree q) (cond (declares tree a) (Some a) None)) l.class)
    ∙ locking_by tree t a b p less (t.below b l.more) (like_declares tree t a b l) (locking_node tree p) refl
    ∙ sym (ap (λ (o : Option ℕ). is_that o b) (locking_at tree t b l.more))

gathered_in : (tree : List Row) → IsTree tree → (n : ℕ) (k : List ℕ) → is_test (row_at tree n).kind ≡ true → 0 < n → n < length tree → gathered tree n k ≡ declared tree n k
gathered_in tree t n k test pos less = all-gathered tree n k ∙ gathered_after tree t n k (length tree) test pos less

pub like-taken : (tree : List Row) → IsTree tree → (a b : ℕ) → AreLike tree a b → (k : List ℕ) → taken tree a k ≡ taken tree b k
like-taken tree t a b l k =
    let gather : gathered tree a k ≡ gathered tree b k =
    gathered_in tree t a k l.first l.some l.below ∙ ap (λ (ms : List Mark). rights_of ms k) (like-marks tree t a b l) ∙ sym (gathered_in tree t b k l.second l.more l.within) in
    let global : global_access tree a k ≡ global_access tree b k =
    ap₂ (λ (top holds : Bool). cond (top && bytes_eq global_key k) (Some (cond holds Write Read)) None) (like_top tree a b l) (like_holds tree t a b l) in
    ap₂ strongest global (ap₂ (λ (u : Bool) (g : Option Access). cond u g None) (like-locking tree t a b l) gather)

-- and the same locks
pub like-locks : (tree : List Row) → IsTree tree → (a b : ℕ) → AreLike tree a b → locks tree a ≡ locks tree b
like-locks tree t a b l = ap (λ (f : List ℕ → Option Access). locks_from 0 (map f (keys tree))) (λ i k. like-taken tree t a b l k i)

-- what is gathered twice is gathered
strongest_self : (d : Option Access) → strongest d d ≡ d
strongest_self None = refl
strongest_self (Some Read) = refl
strongest_self (Some Write) = refl

strongest_twice : (d x : Option Access) → strongest d (strongest d x) ≡ strongest d x
strongest_twice d x = sym (strongest-assoc d d x) ∙ ap (λ (a : Option Access). strongest a x) (strongest_self d)

above_by : (o : Option ℕ) (d : Bool) (n m : ℕ) → option_or o (cond d (Some n) None) ≡ Some m → (m ≡ n → ⊥) → o ≡ Some m
above_by (Some j) d n m e apart = e
above_by None true n m e apart = let same : n ≡ m = cc in absurd (apart (sym same))
above_by None false n m e apart = let no : None ≡ Some m = e in absurd (cc)

-- a test and the one that it repeats
pub like-before : (tree : List Row) (n : ℕ) → Repeats tree n → n < length tree → AreLike tree (n - 1) n
like-before tree n r h =
    let later = r.later in
    record {
      below = omega arith;
      within = h;
      some = omega arith;
      more = omega arith;
      first = r.first;
      second = r.second;
      class = r.class;
      written = r.written;
    }

before_locks : (tree : List Row) → IsTree tree → (n m : ℕ) → Repeats tree n → locking_node tree n ≡ Some m → (m ≡ n → ⊥) → locking_node tree (n - 1) ≡ Some m
before_locks tree t n m r own apart =
    let later = r.later in
    let above : locking_node tree (parent tree n) ≡ Some m =
    above_by (locking_node tree (parent tree n)) (declares tree n) n m (sym (locking_at tree t n (omega arith)) ∙ own) apart in
    locking_at tree t (n - 1) (omega arith)
    ∙ ap (λ (o : Option ℕ). option_or o (cond (declares tree (n - 1)) (Some (n - 1)) None)) (ap (locking_node tree) r.class ∙ above)

stays_by : (tree : List Row) → IsTree tree → (n p m : ℕ) (k : List ℕ) → Repeats tree n → n < length tree → n ≡ suc p → (m ≡ n → ⊥) → (b : Bool) → is_that (locking_node tree n) m ≡ b
    → taken_below tree m k (suc n) ≡ taken_below tree m k n
stays_by tree t n p m k r h next apart false e = taken-other tree t.below m n k e
stays_by tree t n p m k r h next apart true e =
    let own : locking_node tree n ≡ Some m = that-is (locking_node tree n) m e in
    let back : n - 1 ≡ p = omega arith in
    let before : locking_node tree p ≡ Some m = ap (locking_node tree) (sym back) ∙ before_locks tree t n m r own apart in
    let d = declared tree n k in
    let alike : declared tree p k ≡ d =
    ap (λ (j : ℕ). declared tree j k) (sym back) ∙ ap (λ (ms : List Mark). rights_of ms k) (like-marks tree t (n - 1) n (like-before tree n r h)) in
    let x = taken_below tree m k p in
    let now : taken_below tree m k n ≡ strongest d x =
    ap (taken_below tree m k) next ∙ taken-same tree t.below m p k before ∙ ap (λ (a : Option Access). strongest a x) alike in
    taken-same tree t.below m n k own ∙ ap (strongest d) now ∙ strongest_twice d x ∙ sym now

-- it adds nothing to what another node takes
pub repeat-stays : (tree : List Row) → IsTree tree → (n m : ℕ) (k : List ℕ) → Repeats tree n → n < length tree → (m ≡ n → ⊥) → taken_below tree m k (suc n) ≡ taken_below tree m k n
repeat-stays tree t n m k r h apart =
    let later = r.later in
    let next : n ≡ suc (n - 1) = omega arith in
    stays_by tree t n (n - 1) m k r h next apart (is_that (locking_node tree n) m) refl

-- a locking node that repeats another is the locking node of itself alone
pub repeat-alone : (tree : List Row) → IsTree tree → (n m : ℕ) → Repeats tree m → locking_node tree n ≡ Some m → n ≡ m
repeat-alone tree t n m r own =
    leaf tree t m n r.second (under-locking tree t.below m n (locking-locks tree t.below m n own) ∙ that-self (locking_node tree n) m own)
