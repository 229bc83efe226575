-- What the laws of a plan rest on: rights down a path, keys that are taken, and conflicts.
use Rattle.std.proofs.Common.{◌≡◌, ◌⊎◌, ℕ, zero, suc, ◌<◌, List, [], ◌∷◌, ◌++◌, Option, Some, None, Bool, true, false, ◌||◌, ◌&&◌, ◌==◌, cond, filter, length, map, not, ⊎_elim, inl, inr, refl, sym, ap, ap₂, ◌∙◌, arith, bytes_eq}
use Rattle.std.proofs.lemmas.Bool.Decides.{nat_tests}
use Rattle.std.proofs.lemmas.Cmp.{nat_list_eq_equiv}
use Rattle.std.proofs.lemmas.List.Folds.{list_any-append}
use Rattle.std.specs.Bool.{if◌then◌else◌}
use Rattle.std.specs.Cmp.Lexicographic.{bytes_decides}
use Rattle.std.specs.List.{list_any}
use Rattle.std.specs.Option.{option_or}
use Rattle.indexmap.specs.IndexSet.{insert_all, insert_key}
use Rattle.iso_model.proofs.RightsLemmas.{strongest-none, strongest-assoc, strongest-comm, rights_of-append}
use Rattle.iso_model.specs.Chains.{ClassHead, marks_of}
use Rattle.iso_model.specs.ResourceKeys.{global_key}
use Rattle.iso_model.specs.Rights.{declared_by, strongest, rights_of, is_readable, is_writable}
use Rattle.iso_model.specs.declared.access.Access.{Access}
use Rattle.iso_model.specs.declared.access.Access.TheVariants.{Read, Write}
use Rattle.iso_model.specs.Targets.{for_itself, is_target, marks_for}
use Rattle.iso_model.specs.declared.heads.Mark.{Mark}
use Rattle.iso_model.specs.declared.heads.Target.{Target}
use Rattle.iso_model.specs.declared.heads.Target.TheVariants.{Itself, Children}
use Rattle.iso_model.specs.declared.script.Mode.TheVariants.{SameThread}
use Rattle.iso_plan.proofs.LockLemmas.{that-is, that-self, under-locking, locking-locks}
use Rattle.iso_plan.proofs.PathLemmas.{IsBelow, along, chain-step, eq_from, eq_not, path-root, path-step}
use Rattle.iso_plan.proofs.SoFar.{all-gathered, all-isolate, gathered_below, isolates_below}
use Rattle.iso_plan.proofs.TopLemmas.{top, top-is, no-top, under-top, own-path}
use Rattle.iso_plan.specs.KeyTable.{keys, mark_keys, marked_keys, kind_marks}
use Rattle.iso_plan.specs.Locks.{conflict, declared, declares, effective_marks, exclude, gathered, global_access, holds_isolated, is_isolated, is_locking, is_marked, is_write, isolates, lock_of, locking_node, locks_from, marks_global, taken, takes_write}
use Rattle.iso_plan.specs.Modes.{chosen_mode, mode}
use Rattle.iso_plan.specs.NodeChains.{chain_classes, class_heads, heads_on, node_rights, rights_with}
use Rattle.iso_plan.specs.Paths.{IsTree, is_on, is_root, is_test, is_top, is_under, outermost, parent, path, row_at}
use Rattle.iso_plan.specs.Tree.{Kind, root, class_node, test_node, Row}
use Rattle.iso_plan.specs.Covers.{IsCovered}
use Rattle.iso_settings.specs.declared.settings.Settings.{Settings}

of_classes : (kind : Kind) (cs : List ClassHead) (k : List ℕ) → is_test kind ≡ false → rights_with kind cs k ≡ rights_of (marks_of cs) k
of_classes root cs k h = refl
of_classes (class_node isolated head) cs k h = refl
of_classes (test_node head) cs k h = let wrong : true ≡ false = h in absurd (cc)

rights_by : (kind : Kind) (cs : List ClassHead) (k : List ℕ) → rights_with kind (class_heads kind ++ cs) k ≡ strongest (rights_of (kind_marks kind) k) (rights_of (marks_of cs) k)
rights_by root cs k = refl
rights_by (class_node isolated head) cs k = rights_of-append head.marks (marks_of cs) k
rights_by (test_node head) cs k = rights_of-append head.marks (marks_of cs) k

parent_rights : (tree : List Row) → IsTree tree → (n : ℕ) (k : List ℕ) → 0 < n → node_rights tree (parent tree n) k ≡ rights_of (marks_of (chain_classes tree (parent tree n))) k
parent_rights tree t n k pos = of_classes (row_at tree (parent tree n)).kind (chain_classes tree (parent tree n)) k (t.inner n pos)

-- a node's rights are what it declares, and those of the class that it stands in
pub rights-step : (tree : List Row) → IsTree tree → (n : ℕ) (k : List ℕ) → 0 < n → node_rights tree n k ≡ strongest (declared tree n k) (node_rights tree (parent tree n) k)
rights-step tree t n k pos =
    ap (λ (cs : List ClassHead). rights_with (row_at tree n).kind cs k) (chain-step tree t.below n pos)
    ∙ rights_by (row_at tree n).kind (chain_classes tree (parent tree n)) k
    ∙ ap (strongest (declared tree n k)) (sym (parent_rights tree t n k pos))

-- two children of one class with the same marks have the same rights
pub rights-alike : (tree : List Row) → IsTree tree → (m n : ℕ) (k : List ℕ) → 0 < m → 0 < n → parent tree m ≡ parent tree n
    → kind_marks (row_at tree m).kind ≡ kind_marks (row_at tree n).kind → node_rights tree m k ≡ node_rights tree n k
rights-alike tree t m n k low high class marks =
    rights-step tree t m k low ∙ ap₂ (λ (ms : List Mark) (p : ℕ). strongest (rights_of ms k) (node_rights tree p k)) marks class ∙ sym (rights-step tree t n k high)

-- a child's, from those of its class
pub rights-below : (tree : List Row) → IsTree tree → (n : ℕ) (k : List ℕ) (ms : List Mark) (own above : Option Access) → 0 < n → ms ≡ kind_marks (row_at tree n).kind
    → above ≡ node_rights tree (parent tree n) k → own ≡ strongest (rights_of ms k) above → own ≡ node_rights tree n k
rights-below tree t n k ms own above pos marks class e = e ∙ ap₂ (λ (ns : List Mark) (r : Option Access). strongest (rights_of ns k) r) marks class ∙ sym (rights-step tree t n k pos)

pub root-rights : (tree : List Row) → IsTree tree → (k : List ℕ) → node_rights tree 0 k ≡ None
root-rights tree t k =
    ap (λ (r : Row). rights_with r.kind (chain_classes tree 0) k) t.root_is
    ∙ ap (λ (ns : List ℕ). rights_of (marks_of (heads_on tree ns)) k) (path-root tree)

-- the root has none
pub root-unreadable : (tree : List Row) → IsTree tree → (k : List ℕ) → is_readable (node_rights tree 0 k) ≡ false
root-unreadable tree t k =
    ap is_readable (root-rights tree t k)

readable_more : (a b : Option Access) → is_readable b ≡ true → is_readable (strongest a b) ≡ true
readable_more None b h = h
readable_more (Some a) None h = refl
readable_more (Some a) (Some b) h = refl

writable_more : (a b : Option Access) → is_writable b ≡ true → is_writable (strongest a b) ≡ true
writable_more None b h = h
writable_more (Some a) None h = let wrong : false ≡ true = h in absurd (cc)
writable_more (Some Read) (Some b) h = h
writable_more (Some Write) (Some b) h = refl

pub readable-down : (tree : List Row) → IsTree tree → (n : ℕ) (k : List ℕ) → 0 < n → is_readable (node_rights tree (parent tree n) k) ≡ true → is_readable (node_rights tree n k) ≡ true
readable-down tree t n k pos h = ap is_readable (rights-step tree t n k pos) ∙ readable_more (declared tree n k) (node_rights tree (parent tree n) k) h

pub writable-down : (tree : List Row) → IsTree tree → (n : ℕ) (k : List ℕ) → 0 < n → is_writable (node_rights tree (parent tree n) k) ≡ true → is_writable (node_rights tree n k) ≡ true
writable-down tree t n k pos h = ap is_writable (rights-step tree t n k pos) ∙ writable_more (declared tree n k) (node_rights tree (parent tree n) k) h

strongest_same : (a : Option Access) → strongest a a ≡ a
strongest_same None = refl
strongest_same (Some Read) = refl
strongest_same (Some Write) = refl

swap : (g d x : Option Access) → strongest g (strongest d x) ≡ strongest d (strongest g x)
swap g d x = sym (strongest-assoc g d x) ∙ ap (λ (y : Option Access). strongest y x) (strongest-comm g d) ∙ strongest-assoc d g x

less_of : (n l : ℕ) → n < suc l → (l == n) ≡ false → n < l
less_of n l h e = grind (arith, nat_tests)

has_by : (tree : List Row) (m n l : ℕ) (k : List ℕ) → n < suc l → is_under tree m n ≡ true → (n < l → strongest (declared tree n k) (gathered_below tree m k l) ≡ gathered_below tree m k l)
    → (t : Bool) → (l == n) ≡ t → strongest (declared tree n k) (gathered_below tree m k (suc l)) ≡ gathered_below tree m k (suc l)
has_by tree m n l k h u ih true e =
    let same : l ≡ n = eq_from l n e in
    let d = declared tree n k in
    let g = gathered_below tree m k l in
    let here : gathered_below tree m k (suc l) ≡ strongest d g = ap (λ (j : ℕ). strongest (cond (is_under tree m j) (declared tree j k) None) g) same
    ∙ ap (λ (b : Bool). strongest (cond b d None) g) u in
    ap (strongest d) here ∙ sym (strongest-assoc d d g) ∙ ap (λ (x : Option Access). strongest x g) (strongest_same d) ∙ sym here
has_by tree m n l k h u ih false e =
    swap (declared tree n k) (cond (is_under tree m l) (declared tree l k) None) (gathered_below tree m k l)
    ∙ ap (strongest (cond (is_under tree m l) (declared tree l k) None)) (ih (less_of n l h e))

-- what a node declares is gathered by each node that it stands in
gathered_has : (tree : List Row) (m n l : ℕ) (k : List ℕ) → n < l → is_under tree m n ≡ true → strongest (declared tree n k) (gathered_below tree m k l) ≡ gathered_below tree m k l
gathered_has tree m n zero k h u = absurd (omega arith)
gathered_has tree m n (suc l) k h u = has_by tree m n l k h u (λ less. gathered_has tree m n l k less u) (l == n) refl

unlike : (n : ℕ) → (suc n == 0) ≡ false
unlike n = eq_not (suc n) 0 (λ e. absurd (omega arith))

or_right : (a b : Bool) → (a || b) ≡ false → b ≡ false
or_right true b h = let wrong : true ≡ false = h in absurd (cc)
or_right false b h = h

no_marks : (ms : List Mark) (k : List ℕ) → (n : ℕ) → length ms ≡ n → not (n == 0) ≡ false → rights_of ms k ≡ None
no_marks [] k n l h = refl
no_marks (m ∷ ms) k zero l h = absurd (omega arith)
no_marks (m ∷ ms) k (suc n) l h = let wrong : true ≡ false = (ap not (sym (unlike n))) ∙ h in absurd (cc)

undeclared : (tree : List Row) (n : ℕ) (k : List ℕ) → declares tree n ≡ false → declared tree n k ≡ None
undeclared tree n k h = no_marks (effective_marks tree n) k (length (effective_marks tree n)) refl (or_right (holds_isolated tree n) (is_marked tree n) h)

absorbed : (d r g : Option Access) → strongest d g ≡ g → strongest r g ≡ g → strongest (strongest d r) g ≡ g
absorbed d r g hd hr = strongest-assoc d r g ∙ ap (strongest d) hr ∙ hd

locking_step : (tree : List Row) → IsBelow tree → (n : ℕ) → 0 < n → locking_node tree n ≡ option_or (locking_node tree (parent tree n)) (cond (declares tree n) (Some n) None)
locking_step tree b n pos = ap (outermost (declares tree)) (path-step tree b n pos)

root_rights : (tree : List Row) → IsTree tree → (n : ℕ) (k : List ℕ) → 0 < n → parent tree n ≡ 0 → node_rights tree (parent tree n) k ≡ None
root_rights tree t n k pos e =
    parent_rights tree t n k pos ∙ ap (λ (p : ℕ). rights_of (marks_of (heads_on tree (path tree p))) k) e ∙ ap (λ (ns : List ℕ). rights_of (marks_of (heads_on tree ns)) k) (path-root tree)

-- of the class that a node stands in: it gathers, or it is the root and gives no rights
record Above (tree : List Row) (k : List ℕ) (p : ℕ) : Type 0 where
  pub at : (m : ℕ) → p < length tree → locking_node tree p ≡ Some m → strongest (node_rights tree p k) (gathered_below tree m k (length tree)) ≡ gathered_below tree m k (length tree)
  pub nowhere : locking_node tree p ≡ None → node_rights tree p k ≡ None

above_by : (tree : List Row) → IsTree tree → (n : ℕ) (k : List ℕ) → 0 < n → (p : ℕ) → p ≡ parent tree n → (0 < p → Above tree k p) → Above tree k p
above_by tree t n k pos zero e ih =
    let none : node_rights tree 0 k ≡ None = ap (λ (p : ℕ). node_rights tree p k) e ∙ root_rights tree t n k pos (sym e) in
    record { at = λ m h own. ap (λ (r : Option Access). strongest r (gathered_below tree m k (length tree))) none; nowhere = λ h. none }
above_by tree t n k pos (suc p) e ih = ih (omega arith)

gathers_at : (tree : List Row) → IsTree tree → (n : ℕ) (k : List ℕ) → 0 < n → Above tree k (parent tree n) → (m : ℕ) → n < length tree
    → locking_node tree n ≡ Some m → (o : Option ℕ) → locking_node tree (parent tree n) ≡ o → option_or o (cond (declares tree n) (Some n) None) ≡ Some m
    → strongest (node_rights tree n k) (gathered_below tree m k (length tree)) ≡ gathered_below tree m k (length tree)
gathers_at tree t n k pos up m h own (Some j) e c =
    let same : j ≡ m = let whole : Some j ≡ Some m = c in cc in
    let g = gathered_below tree m k (length tree) in
    let below : parent tree n < n = t.below n pos in
    let here : strongest (declared tree n k) g ≡ g = gathered_has tree m n (length tree) k h
    (under-locking tree t.below m n (locking-locks tree t.below m n own) ∙ that-self (locking_node tree n) m own) in
    ap (λ (r : Option Access). strongest r g) (rights-step tree t n k pos) ∙ absorbed (declared tree n k) (node_rights tree (parent tree n) k) g here (up.at m (omega arith) (e ∙ ap Some same))
gathers_at tree t n k pos up m h own None e c =
    let g = gathered_below tree m k (length tree) in
    let here : strongest (declared tree n k) g ≡ g = gathered_has tree m n (length tree) k h
    (under-locking tree t.below m n (locking-locks tree t.below m n own) ∙ that-self (locking_node tree n) m own) in
    ap (λ (r : Option Access). strongest r g) (rights-step tree t n k pos ∙ ap (strongest (declared tree n k)) (up.nowhere e) ∙ strongest-none (declared tree n k)) ∙ here

none_declares : (n : ℕ) (b : Bool) → cond b (Some n) None ≡ None → b ≡ false
none_declares n true h = let wrong : Some n ≡ None = h in absurd (cc)
none_declares n false h = refl

gathers_none : (tree : List Row) → IsTree tree → (n : ℕ) (k : List ℕ) → 0 < n → Above tree k (parent tree n) → (o : Option ℕ)
    → locking_node tree (parent tree n) ≡ o → option_or o (cond (declares tree n) (Some n) None) ≡ None → node_rights tree n k ≡ None
gathers_none tree t n k pos up (Some j) e c = let wrong : Some j ≡ None = c in absurd (cc)
gathers_none tree t n k pos up None e c =
    rights-step tree t n k pos ∙ ap₂ strongest (undeclared tree n k (none_declares n (declares tree n) c)) (up.nowhere e)

abbrev Rises : List Row → List ℕ → ℕ → Type 0
Rises tree k n = 0 < n → Above tree k n

rises : (tree : List Row) → IsTree tree → (k : List ℕ) (n : ℕ) → Rises tree k n
rises tree t k =
    along tree t.below (Rises tree k)
    (λ h. absurd (omega arith))
    (λ n pos ih h.
    let up = above_by tree t n k pos (parent tree n) refl ih in
    record {
      at = λ m l own. gathers_at tree t n k pos up m l own (locking_node tree (parent tree n)) refl (sym (locking_step tree t.below n pos) ∙ own);
      nowhere = λ none. gathers_none tree t n k pos up (locking_node tree (parent tree n)) refl (sym (locking_step tree t.below n pos) ∙ none);
    })

readable_by : (a g : Option Access) → strongest a g ≡ g → is_readable a ≡ true → is_readable g ≡ true
readable_by None g e h = let wrong : false ≡ true = h in absurd (cc)
readable_by (Some a) None e h = let wrong : Some a ≡ None = e in absurd (cc)
readable_by (Some a) (Some b) e h = refl

writable_by : (a g : Option Access) → strongest a g ≡ g → is_writable a ≡ true → is_writable g ≡ true
writable_by None g e h = let wrong : false ≡ true = h in absurd (cc)
writable_by (Some Read) g e h = let wrong : false ≡ true = h in absurd (cc)
writable_by (Some Write) None e h = let wrong : Some Write ≡ None = e in absurd (cc)
writable_by (Some Write) (Some b) e h = ap is_writable (sym e)

covered_by : (tree : List Row) → IsTree tree → (n : ℕ) (k : List ℕ) → 0 < n → n < length tree
    → is_readable (node_rights tree n k) ≡ true → (o : Option ℕ) → locking_node tree n ≡ o → IsCovered tree n k
covered_by tree t n k pos h r None e =
    let none : is_readable (node_rights tree n k) ≡ false = ap is_readable ((rises tree t k n pos).nowhere e) in
    absurd (cc)
covered_by tree t n k pos h r (Some m) e =
    let l : is_locking tree m ≡ true = locking-locks tree t.below m n e in
    let g = gathered tree m k in
    let all : strongest (node_rights tree n k) g ≡ g = rw (all-gathered tree m k) ((rises tree t k n pos).at m h e) in
    let takes : taken tree m k ≡ strongest (global_access tree m k) g = ap (λ (b : Bool). strongest (global_access tree m k) (cond b g None)) l in
    record {
      taker = m;
      locks = e;
      above = under-locking tree t.below m n l ∙ that-self (locking_node tree n) m e;
      reads = ap is_readable takes ∙ readable_more (global_access tree m k) g (readable_by (node_rights tree n k) g all r);
      writes = λ w. ap is_writable takes ∙ writable_more (global_access tree m k) g (writable_by (node_rights tree n k) g all w);
    }

pub covered : (tree : List Row) → IsTree tree → (n : ℕ) (k : List ℕ) → 0 < n → n < length tree → is_readable (node_rights tree n k) ≡ true → IsCovered tree n k
covered tree t n k pos h r = covered_by tree t n k pos h r (locking_node tree n) refl

or_left : (a b : Bool) → a ≡ true → (a || b) ≡ true
or_left a b h = ap (λ (x : Bool). x || b) h

or_last : (a b : Bool) → b ≡ true → (a || b) ≡ true
or_last true b h = refl
or_last false b h = h

insert_keeps : (ks : List (List ℕ)) (x k : List ℕ) → list_any (bytes_eq k) ks ≡ true → (t : Bool) → list_any (bytes_eq k) (if t then ks else ks ++ x ∷ []) ≡ true
insert_keeps ks x k h true = h
insert_keeps ks x k h false = list_any-append (bytes_eq k) ks (x ∷ []) ∙ or_left (list_any (bytes_eq k) ks) (bytes_eq k x || false) h

pub insert_has : (ks : List (List ℕ)) (x : List ℕ) → (t : Bool) → list_any (bytes_eq x) ks ≡ t → list_any (bytes_eq x) (if t then ks else ks ++ x ∷ []) ≡ true
insert_has ks x true e = e
insert_has ks x false e = list_any-append (bytes_eq x) ks (x ∷ []) ∙ or_last (list_any (bytes_eq x) ks) (bytes_eq x x || false) (or_left (bytes_eq x x) false (nat_list_eq_equiv.refl x))

pub all_keep : (xs ks : List (List ℕ)) (k : List ℕ) → list_any (bytes_eq k) ks ≡ true → list_any (bytes_eq k) (insert_all bytes_eq ks xs) ≡ true
all_keep [] ks k h = h
all_keep (x ∷ xs) ks k h = all_keep xs (insert_key bytes_eq ks x) k (insert_keeps ks x k h (list_any (bytes_eq x) ks))

key_has : (x : List ℕ) (xs ks : List (List ℕ)) (k : List ℕ) → (t : Bool) → bytes_eq k x ≡ t → (t || list_any (bytes_eq k) xs) ≡ true
    → (list_any (bytes_eq k) xs ≡ true → list_any (bytes_eq k) (insert_all bytes_eq ks (x ∷ xs)) ≡ true) → list_any (bytes_eq k) (insert_all bytes_eq ks (x ∷ xs)) ≡ true
key_has x xs ks k true e h ih =
    let same : k ≡ x = (bytes_decides k x).0 e in
    all_keep xs (insert_key bytes_eq ks x) k (ap (λ j. list_any (bytes_eq j) (insert_key bytes_eq ks x)) same ∙ insert_has ks x (list_any (bytes_eq x) ks) refl)
key_has x xs ks k false e h ih = ih h

-- what is inserted is there
pub all_have : (xs ks : List (List ℕ)) (k : List ℕ) → list_any (bytes_eq k) xs ≡ true → list_any (bytes_eq k) (insert_all bytes_eq ks xs) ≡ true
all_have [] ks k h = let wrong : false ≡ true = h in absurd (cc)
all_have (x ∷ xs) ks k h = key_has x xs ks k (bytes_eq k x) refl h (all_have xs (insert_key bytes_eq ks x) k)

mark_by : (m : Mark) (ms : List Mark) (k : List ℕ) → (t : Bool) → is_readable (strongest (cond t (Some m.access) None) (rights_of ms k)) ≡ true
    → (is_readable (rights_of ms k) ≡ true → list_any (bytes_eq k) (mark_keys ms) ≡ true) → (t || list_any (bytes_eq k) (mark_keys ms)) ≡ true
mark_by m ms k true h ih = refl
mark_by m ms k false h ih = ih h

marks_name : (ms : List Mark) (k : List ℕ) → is_readable (rights_of ms k) ≡ true → list_any (bytes_eq k) (mark_keys ms) ≡ true
marks_name [] k h = let wrong : false ≡ true = h in absurd (cc)
marks_name (m ∷ ms) k h = mark_by m ms k (bytes_eq k m.key) h (marks_name ms k)

rows_name : (rs : List Row) (j : ℕ) (k : List ℕ) → is_readable (rights_of (row_at rs j).written k) ≡ true → list_any (bytes_eq k) (marked_keys rs) ≡ true
rows_name [] zero k h = let wrong : false ≡ true = h in absurd (cc)
rows_name [] (suc j) k h = let wrong : false ≡ true = h in absurd (cc)
rows_name (r ∷ rs) zero k h =
    list_any-append (bytes_eq k) (mark_keys r.written) (marked_keys rs)
    ∙ or_left (list_any (bytes_eq k) (mark_keys r.written)) (list_any (bytes_eq k) (marked_keys rs)) (marks_name r.written k h)
rows_name (r ∷ rs) (suc j) k h =
    list_any-append (bytes_eq k) (mark_keys r.written) (marked_keys rs)
    ∙ or_last (list_any (bytes_eq k) (mark_keys r.written)) (list_any (bytes_eq k) (marked_keys rs)) (rows_name rs j k h)

-- the first of two, or the second
readable_cases : (a b : Option Access) → is_readable (strongest a b) ≡ true → (is_readable a ≡ true) ⊎ (is_readable b ≡ true)
readable_cases None b h = inr h
readable_cases (Some a) b h = inl refl

first_readable : (a b : Option Access) → is_readable a ≡ true → is_readable (strongest a b) ≡ true
first_readable None b h = let wrong : false ≡ true = h in absurd (cc)
first_readable (Some a) None h = refl
first_readable (Some a) (Some b) h = refl

-- what some of the written marks declare, all of them do
some_by : (m : Mark) (ms some : List Mark) (k : List ℕ) → (b : Bool) → is_readable (rights_of (map for_itself (cond b (m ∷ some) some)) k) ≡ true
    → (is_readable (rights_of (map for_itself some) k) ≡ true → is_readable (rights_of ms k) ≡ true) → is_readable (rights_of (m ∷ ms) k) ≡ true
some_by m ms some k true h ih =
    ⊎_elim (first_readable (declared_by m k) (rights_of ms k)) (λ g. readable_more (declared_by m k) (rights_of ms k) (ih g))
    (readable_cases (declared_by m k) (rights_of (map for_itself some) k) h)
some_by m ms some k false h ih = readable_more (declared_by m k) (rights_of ms k) (ih h)

written_for : (t : Target) (ms : List Mark) (k : List ℕ) → is_readable (rights_of (marks_for t ms) k) ≡ true → is_readable (rights_of ms k) ≡ true
written_for t [] k h = h
written_for t (m ∷ ms) k h = some_by m ms (filter (λ n. is_target t n.target) ms) k (is_target t m.target) h (written_for t ms k)

-- a key that a node declares has a number
known_by : (tree : List Row) (k : List ℕ) → list_any (bytes_eq k) (marked_keys tree) ≡ true → list_any (bytes_eq k) (keys tree) ≡ true
known_by tree k h = all_have (marked_keys tree) (global_key ∷ []) k h

keys_have : (tree : List Row) → IsTree tree → (j : ℕ) (k : List ℕ) → j < length tree → is_readable (rights_of (kind_marks (row_at tree j).kind) k) ≡ true → list_any (bytes_eq k) (keys tree) ≡ true
keys_have tree t zero k less h =
    let wrong : false ≡ true = sym (ap (λ (r : Row). is_readable (rights_of (kind_marks r.kind) k)) t.root_is) ∙ h in absurd (cc)
keys_have tree t (suc j) k less h =
    let above = (row_at tree (parent tree (suc j))).written in
    let own = (row_at tree (suc j)).written in
    let both = ap is_readable (sym (rights_of-append (marks_for Itself own) (marks_for Children above) k))
    ∙ ap (λ (ms : List Mark). is_readable (rights_of ms k)) (sym (t.marked (suc j) (omega arith) less)) ∙ h in
    ⊎_elim (λ g. known_by tree k (rows_name tree (suc j) k (written_for Itself own k g)))
    (λ g. known_by tree k (rows_name tree (parent tree (suc j)) k (written_for Children above k g)))
    (readable_cases (rights_of (marks_for Itself own) k) (rights_of (marks_for Children above) k) both)

-- a node with a number below l that is m or stands in it, and declares the key
record Declarer (tree : List Row) (m : ℕ) (k : List ℕ) (l : ℕ) : Type 0 where
  pub node : ℕ
  pub less : node < l
  pub under : is_under tree m node ≡ true
  pub reads : is_readable (declared tree node k) ≡ true

declarer_here : (tree : List Row) (m l : ℕ) (k : List ℕ) → (t : Bool) → is_under tree m l ≡ t → is_readable (cond t (declared tree l k) None) ≡ true → Declarer tree m k (suc l)
declarer_here tree m l k true u h = record { node = l; less = omega arith; under = u; reads = h }
declarer_here tree m l k false u h = let wrong : false ≡ true = h in absurd (cc)

declarer_more : (tree : List Row) (m l : ℕ) (k : List ℕ) → Declarer tree m k l → Declarer tree m k (suc l)
declarer_more tree m l k d = let less = d.less in record { node = d.node; less = omega arith; under = d.under; reads = d.reads }

declarer_below : (tree : List Row) (m l : ℕ) (k : List ℕ) → is_readable (gathered_below tree m k l) ≡ true → Declarer tree m k l
declarer_below tree m zero k h = let wrong : false ≡ true = h in absurd (cc)
declarer_below tree m (suc l) k h =
    ⊎_elim (λ here. declarer_here tree m l k (is_under tree m l) refl here) (λ there. declarer_more tree m l k (declarer_below tree m l k there))
    (readable_cases (cond (is_under tree m l) (declared tree l k) None) (gathered_below tree m k l) h)

declarer : (tree : List Row) (m : ℕ) (k : List ℕ) → is_readable (gathered tree m k) ≡ true → Declarer tree m k (length tree)
declarer tree m k h = declarer_below tree m (length tree) k (ap is_readable (sym (all-gathered tree m k)) ∙ h)

global_known : (tree : List Row) → list_any (bytes_eq global_key) (keys tree) ≡ true
global_known tree =
    all_keep (marked_keys tree) (global_key ∷ []) global_key (or_left (bytes_eq global_key global_key) false (nat_list_eq_equiv.refl global_key))

global_by : (tree : List Row) (m : ℕ) (k : List ℕ) → (t e : Bool) → is_top tree m ≡ t → bytes_eq global_key k ≡ e
    → is_readable (cond (t && e) (Some (cond (holds_isolated tree m) Write Read)) None) ≡ true → (is_top tree m ≡ true) × (global_key ≡ k)
global_by tree m k true true ht he h = (ht, (bytes_decides global_key k).0 he)
global_by tree m k true false ht he h = let wrong : false ≡ true = h in absurd (cc)
global_by tree m k false e ht he h = let wrong : false ≡ true = h in absurd (cc)

-- what takes the global key besides is a top-level class
takes_global : (tree : List Row) (m : ℕ) (k : List ℕ) → is_readable (global_access tree m k) ≡ true → (is_top tree m ≡ true) × (global_key ≡ k)
takes_global tree m k h = global_by tree m k (is_top tree m) (bytes_eq global_key k) refl refl h

locking_by : (tree : List Row) (m : ℕ) (k : List ℕ) → (t : Bool) → is_locking tree m ≡ t
    → is_readable (cond t (gathered tree m k) None) ≡ true → (is_locking tree m ≡ true) × (is_readable (gathered tree m k) ≡ true)
locking_by tree m k true e h = (e, h)
locking_by tree m k false e h = let wrong : false ≡ true = h in absurd (cc)

-- how a node comes to take a key: as a top-level class, or as a locking node
pub takes-by : (tree : List Row) (m : ℕ) (k : List ℕ) → is_readable (taken tree m k) ≡ true
    → ((is_top tree m ≡ true) × (global_key ≡ k)) ⊎ ((is_locking tree m ≡ true) × (is_readable (gathered tree m k) ≡ true))
takes-by tree m k h =
    ⊎_elim (λ g. inl (takes_global tree m k g)) (λ g. inr (locking_by tree m k (is_locking tree m) refl g))
    (readable_cases (global_access tree m k) (cond (is_locking tree m) (gathered tree m k) None) h)

-- a node takes keys only where it is a locking node or a top-level class
pub takes-only : (tree : List Row) (m : ℕ) (k : List ℕ) → is_readable (taken tree m k) ≡ true → (is_locking tree m || is_top tree m) ≡ true
takes-only tree m k h =
    ⊎_elim (λ g. or_last (is_locking tree m) (is_top tree m) g.0) (λ g. or_left (is_locking tree m) (is_top tree m) g.0) (takes-by tree m k h)

-- a key that is taken has a number
pub taken-known : (tree : List Row) → IsTree tree → (m : ℕ) (k : List ℕ) → is_readable (taken tree m k) ≡ true → list_any (bytes_eq k) (keys tree) ≡ true
taken-known tree t m k h =
    ⊎_elim (λ g. ap (λ (j : List ℕ). list_any (bytes_eq j) (keys tree)) (sym g.1) ∙ global_known tree)
    (λ g. let d = declarer tree m k g.1 in keys_have tree t d.node k d.less d.reads)
    (takes-by tree m k h)

readable_of : (a : Option Access) → is_writable a ≡ true → is_readable a ≡ true
readable_of None h = h
readable_of (Some a) h = refl

lock_writes : (i : ℕ) (a : Option Access) → is_writable a ≡ true → list_any is_write (lock_of i a) ≡ true
lock_writes i None h = h
lock_writes i (Some a) h = or_left (is_writable (Some a)) false h

writes_by : (f : List ℕ → Option Access) (x : List ℕ) (ks : List (List ℕ)) (k : List ℕ) (i : ℕ) → is_writable (f k) ≡ true → (t : Bool) → bytes_eq k x ≡ t → (t || list_any (bytes_eq k) ks) ≡ true
    → (list_any (bytes_eq k) ks ≡ true → list_any is_write (locks_from (suc i) (map f ks)) ≡ true) → list_any is_write (lock_of i (f x) ++ locks_from (suc i) (map f ks)) ≡ true
writes_by f x ks k i w true e h ih =
    let same : k ≡ x = (bytes_decides k x).0 e in
    list_any-append is_write (lock_of i (f x)) (locks_from (suc i) (map f ks))
    ∙ or_left (list_any is_write (lock_of i (f x))) (list_any is_write (locks_from (suc i) (map f ks))) (lock_writes i (f x) (ap (λ (j : List ℕ). is_writable (f j)) (sym same) ∙ w))
writes_by f x ks k i w false e h ih =
    list_any-append is_write (lock_of i (f x)) (locks_from (suc i) (map f ks)) ∙ or_last (list_any is_write (lock_of i (f x))) (list_any is_write (locks_from (suc i) (map f ks))) (ih h)

locks_write : (f : List ℕ → Option Access) (ks : List (List ℕ)) (k : List ℕ) (i : ℕ) → list_any (bytes_eq k) ks ≡ true → is_writable (f k) ≡ true → list_any is_write (locks_from i (map f ks)) ≡ true
locks_write f [] k i h w = h
locks_write f (x ∷ ks) k i h w = writes_by f x ks k i w (bytes_eq k x) refl h (λ rest. locks_write f ks k (suc i) rest w)

pub taken-writes : (tree : List Row) → IsTree tree → (m : ℕ) (k : List ℕ) → is_writable (taken tree m k) ≡ true → takes_write tree m ≡ true
taken-writes tree t m k w = locks_write (taken tree m) (keys tree) k 0 (taken-known tree t m k (readable_of (taken tree m k) w)) w

on_by : (test : ℕ → Bool) (n : ℕ) (ns : List ℕ) (m : ℕ) → test m ≡ true → (t : Bool) → (n == m) ≡ t
    → (t || is_on ns m) ≡ true → (is_on ns m ≡ true → list_any test ns ≡ true) → (test n || list_any test ns) ≡ true
on_by test n ns m w true e h ih =
    let same : n ≡ m = eq_from n m e in
    or_left (test n) (list_any test ns) (ap test same ∙ w)
on_by test n ns m w false e h ih = or_last (test n) (list_any test ns) (ih h)

on_path : (test : ℕ → Bool) (ns : List ℕ) (m : ℕ) → is_on ns m ≡ true → test m ≡ true → list_any test ns ≡ true
on_path test [] m h w = h
on_path test (n ∷ ns) m h w = on_by test n ns m w (n == m) refl h (λ rest. on_path test ns m rest w)

forced_mode : (tree : List Row) (s : Settings) (n : ℕ) → (f p : Bool) → f ≡ true → cond (p && not (is_root n) && not f) (chosen_mode tree s n) SameThread ≡ SameThread
forced_mode tree s zero f true h = refl
forced_mode tree s zero f false h = refl
forced_mode tree s (suc n) f true h = ap (λ (b : Bool). cond (true && not false && not b) (chosen_mode tree s (suc n)) SameThread) h
forced_mode tree s (suc n) f false h = refl

-- what stands in a node that takes a key for READ_WRITE is on the same thread
pub forced : (tree : List Row) → IsTree tree → (s : Settings) (m n : ℕ) (k : List ℕ) → is_under tree m (parent tree n) ≡ true → is_writable (taken tree m k) ≡ true → mode tree s n ≡ SameThread
forced tree t s m n k u w =
    forced_mode tree s n (list_any (takes_write tree) (path tree (parent tree n))) s.parallel (on_path (takes_write tree) (path tree (parent tree n)) m u (taken-writes tree t m k w))

alone_by : (m n : ℕ) → (t : Bool) → (n == m) ≡ t → (t || false) ≡ true → m ≡ n
alone_by m n true e h = sym (eq_from n m e)
alone_by m n false e h = let wrong : false ≡ true = h in absurd (cc)

-- a top-level class stands in itself alone
pub top_alone : (tree : List Row) → IsBelow tree → (m n : ℕ) → is_top tree n ≡ true → is_under tree m n ≡ true → m ≡ n
top_alone tree b m n h u = alone_by m n (n == m) refl (sym (ap (λ (ns : List ℕ). is_on ns m) (own-path tree b n h)) ∙ u)

-- a key that marks declare is the global one only where they name it
global_mark : (m : Mark) (ms : List Mark) → (t : Bool) → bytes_eq global_key m.key ≡ t → is_readable (strongest (cond t (Some m.access) None) (rights_of ms global_key)) ≡ true
    → (is_readable (rights_of ms global_key) ≡ true → marks_global ms ≡ true) → (t || marks_global ms) ≡ true
global_mark m ms true e h ih = refl
global_mark m ms false e h ih = ih h

global_marked : (ms : List Mark) → is_readable (rights_of ms global_key) ≡ true → marks_global ms ≡ true
global_marked [] h = h
global_marked (m ∷ ms) h = global_mark m ms (bytes_eq global_key m.key) refl h (global_marked ms)

isolates_by : (tree : List Row) (t j l : ℕ) → j < suc l → is_under tree t j ≡ true → isolates tree j ≡ true
    → (j < l → isolates_below tree t l ≡ true) → (b : Bool) → (l == j) ≡ b → isolates_below tree t (suc l) ≡ true
isolates_by tree t j l h u i ih true e =
    let same : l ≡ j = eq_from l j e in
    or_left (is_under tree t l && isolates tree l) (isolates_below tree t l) (ap (λ (x : ℕ). is_under tree t x && isolates tree x) same ∙ ap₂ (λ (a b : Bool). a && b) u i)
isolates_by tree t j l h u i ih false e = or_last (is_under tree t l && isolates tree l) (isolates_below tree t l) (ih (less_of j l h e))

isolates_has : (tree : List Row) (t j l : ℕ) → j < l → is_under tree t j ≡ true → isolates tree j ≡ true → isolates_below tree t l ≡ true
isolates_has tree t j zero h u i = absurd (omega arith)
isolates_has tree t j (suc l) h u i = isolates_by tree t j l h u i (λ less. isolates_has tree t j l less u i) (l == j) refl

-- a top-level class that holds an isolated class is a locking node
isolated_locks : (tree : List Row) → IsBelow tree → (t : ℕ) → is_top tree t ≡ true → holds_isolated tree t ≡ true → is_locking tree t ≡ true
isolated_locks tree b t top h =
    that-self (locking_node tree t) t (ap (outermost (declares tree)) (own-path tree b t top)
    ∙ ap (λ (d : Bool). option_or None (cond d (Some t) None)) (or_left (holds_isolated tree t) (is_marked tree t) h))

global_top : (tree : List Row) → IsBelow tree → (n j t : ℕ) → j < length tree → is_locking tree n ≡ true
    → is_under tree n j ≡ true → isolates tree j ≡ true → top tree j ≡ Some t → is_top tree n ≡ true
global_top tree b n j t h ln u i e =
    let above : is_top tree t ≡ true = top-is tree b j t e in
    let ut : is_under tree t j ≡ true = under-top tree b t j above ∙ that-self (top tree j) t e in
    let holds : holds_isolated tree t ≡ true = all-isolate tree t ∙ ap₂ (λ (x y : Bool). x && y) above (isolates_has tree t j (length tree) h ut i) in
    let lt : is_locking tree t ≡ true = isolated_locks tree b t above holds in
    let one : locking_node tree j ≡ Some t = that-is (locking_node tree j) t (sym (under-locking tree b t j lt) ∙ ut) in
    let two : locking_node tree j ≡ Some n = that-is (locking_node tree j) n (sym (under-locking tree b n j ln) ∙ u) in
    let same : t ≡ n = let whole : Some t ≡ Some n = sym one ∙ two in cc in
    ap (is_top tree) (sym same) ∙ above

global_by_top : (tree : List Row) → IsBelow tree → (n : ℕ) → is_locking tree n ≡ true → Declarer tree n global_key (length tree) → (o : Option ℕ)
    → (j : ℕ) → top tree j ≡ o → j < length tree → is_under tree n j ≡ true → is_readable (declared tree j global_key) ≡ true → is_top tree n ≡ true
global_by_top tree b n ln d (Some t) j e h u r =
    global_top tree b n j t h ln u (or_last (is_isolated (row_at tree j).kind) (marks_global (effective_marks tree j)) (global_marked (effective_marks tree j) r)) e
global_by_top tree b n ln d None j e h u r =
    let zeroth : j ≡ 0 = no-top tree b j e in
    let wrong : false ≡ true = sym (ap (λ (ns : List ℕ). is_on ns n) (ap (path tree) zeroth ∙ path-root tree)) ∙ u in
    absurd (cc)

-- a locking node that gathers the global key is a top-level class
pub gathers_global : (tree : List Row) → IsBelow tree → (n : ℕ) → is_locking tree n ≡ true → is_readable (gathered tree n global_key) ≡ true → is_top tree n ≡ true
gathers_global tree b n ln r =
    let d = declarer tree n global_key r in
    global_by_top tree b n ln d (top tree d.node) d.node refl d.less d.under d.reads

pub both_lock : (tree : List Row) → IsBelow tree → (m n : ℕ) → is_locking tree m ≡ true → is_locking tree n ≡ true → is_under tree m n ≡ true → m ≡ n
both_lock tree b m n lm ln u =
    let one : locking_node tree n ≡ Some m = that-is (locking_node tree n) m (sym (under-locking tree b m n lm) ∙ u) in
    let two : locking_node tree n ≡ Some n = that-is (locking_node tree n) n ln in
    let whole : Some m ≡ Some n = sym one ∙ two in
    cc

pub apart : (tree : List Row) → IsBelow tree → (m n : ℕ) (k : List ℕ) → is_under tree m n ≡ true → is_readable (taken tree m k) ≡ true → is_readable (taken tree n k) ≡ true → m ≡ n
apart tree b m n k u rm rn =
    ⊎_elim (λ tn. top_alone tree b m n tn.0 u)
    (λ ln. ⊎_elim
    (λ tm. top_alone tree b m n (gathers_global tree b n ln.0 (ap (λ (j : List ℕ). is_readable (gathered tree n j)) tm.1 ∙ ln.1)) u)
    (λ lm. both_lock tree b m n lm.0 ln.0 u)
    (takes-by tree m k rm))
    (takes-by tree n k rn)

pub excluded : (a b : Option Access) → exclude a b ≡ true → (is_readable a ≡ true) × (is_readable b ≡ true)
excluded None b h = let wrong : false ≡ true = h in absurd (cc)
excluded (Some a) None h = let wrong : false ≡ true = h in absurd (cc)
excluded (Some a) (Some b) h = (refl, refl)

key_by : (tree : List Row) → IsBelow tree → (m n : ℕ) → is_under tree m n ≡ true → (k : List ℕ) → (x : Bool)
    → exclude (taken tree m k) (taken tree n k) ≡ x → (rest : Bool) → (x || rest) ≡ true → (rest ≡ true → m ≡ n) → m ≡ n
key_by tree b m n u k true e rest h ih =
    let r = excluded (taken tree m k) (taken tree n k) e in
    apart tree b m n k u r.0 r.1
key_by tree b m n u k false e rest h ih = ih h

conflict_by : (tree : List Row) → IsBelow tree → (m n : ℕ) → is_under tree m n ≡ true → (ks : List (List ℕ)) → list_any (λ k. exclude (taken tree m k) (taken tree n k)) ks ≡ true → m ≡ n
conflict_by tree b m n u [] h = let wrong : false ≡ true = h in absurd (cc)
conflict_by tree b m n u (k ∷ ks) h =
    key_by tree b m n u k (exclude (taken tree m k) (taken tree n k)) refl (list_any (λ j. exclude (taken tree m j) (taken tree n j)) ks) h (conflict_by tree b m n u ks)

-- of two nodes that conflict, neither stands in the other
pub conflict-apart : (tree : List Row) → IsBelow tree → (m n : ℕ) → conflict tree m n ≡ true → is_under tree m n ≡ true → m ≡ n
conflict-apart tree b m n c u = conflict_by tree b m n u (keys tree) c
