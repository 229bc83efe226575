-- The nodes of scripts stand in preorder, and so do those that are kept of them.
use Rattle.std.proofs.Common.{◌≡◌, ℕ, ◌+◌, ◌<◌, ◌≤◌, List, [], ◌∷◌, ◌++◌, length, map, Bool, inl, inr, refl, sym, ap, ◌∙◌, arith, append_assoc, append-nil}
use Rattle.std.proofs.lemmas.Bool.{cases_lt}
use Rattle.std.proofs.lemmas.List.{length-append, get_or_append_left, get_or_push, get_or_past}
use Rattle.iso_model.specs.Scripts.{Class, class, Member, class_member, test_member, Members, no_members, member, Script}
use Rattle.iso_plan.proofs.NumberLemmas.{number-le, number-less}
use Rattle.iso_plan.proofs.SelectionLemmas.{AreClosed, WasNode, kept-closed, parent-of, was_node}
use Rattle.iso_plan.proofs.TreeLemmas.{effective-at, tree-is, written-placed}
use Rattle.iso_plan.specs.Paths.{IsTree, parent, row_at}
use Rattle.iso_plan.specs.Preorder.{IsPreorder}
use Rattle.iso_plan.specs.KeptNodes.{is_kept_by, number_among, plan_tree, selection, those_of}
use Rattle.iso_plan.specs.Tree.{Row, root_row, test_row, class_row, top_row, member_rows, members_rows, class_rows, top_rows, team_rows, script_rows, effective_row, tree, written_tree}

-- a fact of two cases: one number is less than another, or isn't
by_less : (P : Type 0) (m n : ℕ) → (m < n → P) → (n ≤ m → P) → P
by_less P m n less more = elim (cases_lt m n) [ inl h ↦ less h | inr h ↦ more h ]

-- in preorder, and all behind node p stand in it or deeper: so the next node may stand in it
record Grows (rows : List Row) (p : ℕ) : Type 0 where
  nested : IsPreorder rows
  behind : (m : ℕ) → p < m → m < length rows → p ≤ parent rows m

parent-left : (rows more : List Row) (n : ℕ) → n < length rows → parent (rows ++ more) n ≡ parent rows n
parent-left rows more n h = ap (λ (r : Row). r.parent) (get_or_append_left rows more root_row n h)

parent-last : (rows : List Row) (r : Row) (n : ℕ) → n ≡ length rows → parent (rows ++ r ∷ []) n ≡ r.parent
parent-last rows r n e = ap (λ (x : Row). x.parent) (get_or_push rows r root_row n (sym e))

parent-past : (rows : List Row) (n : ℕ) → length rows ≤ n → parent rows n ≡ 0
parent-past rows n h = ap (λ (r : Row). r.parent) (get_or_past rows n root_row h)

module _ (rows : List Row) (r : Row) (g : Grows rows r.parent) where
  abbrev pushed : List Row
  pushed = rows ++ r ∷ []

  count : length pushed ≡ length rows + 1
  count = length-append rows (r ∷ [])

  push_nested : IsPreorder pushed
  push_nested m n less low =
      by_less (parent pushed n ≤ parent pushed m) n (length rows)
      (λ within.
      let here = parent-left rows (r ∷ []) n within in
      let there = parent-left rows (r ∷ []) m (omega arith) in
      let old = g.nested m n less (omega arith) in
      omega arith)
      (λ past.
      by_less (parent pushed n ≤ parent pushed m) (length rows) n
      (λ far. let none = parent-past pushed n (omega (arith, count)) in omega arith)
      (λ last.
      let here = parent-last rows r n (omega arith) in
      let there = parent-left rows (r ∷ []) m (omega arith) in
      let old = g.behind m (omega arith) (omega arith) in
      omega arith))

  push_behind : (m : ℕ) → r.parent < m → m < length pushed → r.parent ≤ parent pushed m
  push_behind m low h =
      by_less (r.parent ≤ parent pushed m) m (length rows)
      (λ within.
      let there = parent-left rows (r ∷ []) m within in
      let old = g.behind m low within in
      omega arith)
      (λ past. let there = parent-last rows r m (omega (arith, count)) in omega arith)

  push-grows : Grows pushed r.parent
  push-grows = record { nested = push_nested; behind = push_behind }

  -- the new node is the last
  push-last : (n : ℕ) → n ≡ length rows → Grows pushed n
  push-last n e = record { nested = push_nested; behind = λ m low h. absurd (omega (arith, count)) }

-- what stands behind in an inner node stands behind in the outer one
outer : (rows more : List Row) (p n : ℕ) → p ≤ n → length rows ≡ n + 1 → Grows rows p → Grows (rows ++ more) n → Grows (rows ++ more) p
outer rows more p n le l old new = record {
  nested = new.nested;
  behind = λ m low h. by_less (p ≤ parent (rows ++ more) m) m (length rows)
      (λ within. let same = parent-left rows more m within in let was = old.behind m low within in omega arith)
      (λ past. let now = new.behind m (omega arith) h in omega arith);
}

-- a class with what stands in it
around : (r : Row) (body rows : List Row) (n : ℕ) → n ≡ length rows → r.parent < length rows → Grows rows r.parent → Grows ((rows ++ r ∷ []) ++ body) n → Grows (rows ++ r ∷ body) r.parent
around r body rows n l low g inner =
    let count : length (rows ++ r ∷ []) ≡ length rows + 1 = length-append rows (r ∷ []) in
    rw (← append_assoc rows (r ∷ []) body) (outer (rows ++ r ∷ []) body r.parent n (omega arith) (omega arith) (push-grows rows r g) inner)

mutual
  grow_members : (ms : Members) (rows : List Row) (p n : ℕ) → n ≡ length rows → p < length rows → Grows rows p → Grows (rows ++ members_rows p n ms) p
  grow_members no_members rows p n l low g = rw append-nil g
  grow_members (member m ms) rows p n l low g =
      let first = member_rows p n m in
      let count : length (rows ++ first) ≡ length rows + length first = length-append rows first in
      rw (← append_assoc) (grow_members ms (rows ++ first) p (n + length first) (omega arith) (omega arith) (grow_member m rows p n l low g))

  grow_member : (m : Member) (rows : List Row) (p n : ℕ) → n ≡ length rows → p < length rows → Grows rows p → Grows (rows ++ member_rows p n m) p
  grow_member (test_member t) rows p n l low g = push-grows rows (test_row p t) g
  grow_member (class_member c) rows p n l low g = grow_class c rows p n l low g

  grow_class : (c : Class) (rows : List Row) (p n : ℕ) → n ≡ length rows → p < length rows → Grows rows p → Grows (rows ++ class_rows p n c) p
  grow_class (class c ms) rows p n l low g =
      let r = class_row p c in
      let count : length (rows ++ r ∷ []) ≡ length rows + 1 = length-append rows (r ∷ []) in
      around r (members_rows n (n + 1) ms) rows n l low g (grow_members ms (rows ++ r ∷ []) n (n + 1) (omega arith) (omega arith) (push-last rows r g n l))

grow_top : (team : List ℕ) (c : Class) (rows : List Row) (n : ℕ) → n ≡ length rows → 0 < length rows → Grows rows 0 → Grows (rows ++ top_rows team n c) 0
grow_top team (class c ms) rows n l low g =
    let r = top_row team c in
    let count : length (rows ++ r ∷ []) ≡ length rows + 1 = length-append rows (r ∷ []) in
    around r (members_rows n (n + 1) ms) rows n l low g (grow_members ms (rows ++ r ∷ []) n (n + 1) (omega arith) (omega arith) (push-last rows r g n l))

grow_team : (team : List ℕ) (cs : List Class) (rows : List Row) (n : ℕ) → n ≡ length rows → 0 < length rows → Grows rows 0 → Grows (rows ++ team_rows team n cs) 0
grow_team team [] rows n l low g = rw append-nil g
grow_team team (c ∷ cs) rows n l low g =
    let first = top_rows team n c in
    let count : length (rows ++ first) ≡ length rows + length first = length-append rows first in
    rw (← append_assoc) (grow_team team cs (rows ++ first) (n + length first) (omega arith) (omega arith) (grow_top team c rows n l low g))

grow_scripts : (ss : List Script) (rows : List Row) (n : ℕ) → n ≡ length rows → 0 < length rows → Grows rows 0 → Grows (rows ++ script_rows n ss) 0
grow_scripts [] rows n l low g = rw append-nil g
grow_scripts (s ∷ ss) rows n l low g =
    let first = team_rows s.team n s.classes in
    let count : length (rows ++ first) ≡ length rows + length first = length-append rows first in
    rw (← append_assoc) (grow_scripts ss (rows ++ first) (n + length first) (omega arith) (omega arith) (grow_team s.team s.classes rows n l low g))

pub written-in-order : (ss : List Script) → IsPreorder (written_tree ss)
written-in-order ss =
    (grow_scripts ss (root_row ∷ []) 1 refl (omega arith) (record {
      nested = λ m n less low. let none = parent-past (root_row ∷ []) n (omega arith) in omega arith;
      behind = λ m low h. absurd (omega arith);
    })).nested

-- with their effective marks they stand where they stood
pub effective-in-order : (rows : List Row) → IsPreorder rows → IsPreorder (map (effective_row rows) rows)
effective-in-order rows nested m n less low =
    let up : (k : ℕ) → parent (map (effective_row rows) rows) k ≡ parent rows k = λ k. ap (λ (r : Row). r.parent) (effective-at rows k) in
    let here = up n in
    let there = up m in
    let old = nested m n less (omega arith) in
    omega arith

pub tree-in-order : (ss : List Script) → IsPreorder (tree ss)
tree-in-order ss = effective-in-order (written_tree ss) (written-in-order ss)

-- nodes that are left stand in the order in which they stood
pub left-in-order : (tree : List Row) (t : IsTree tree) (passes : ℕ → Bool) → AreClosed tree passes → IsPreorder tree → IsPreorder (those_of passes tree)
left-in-order tree t passes closed nested m n less low =
    let left = those_of passes tree in
    by_less (parent left n ≤ parent left m) n (length left)
    (λ within.
    let w = was_node tree t passes closed n (omega arith) within in
    let u = was_node tree t passes closed m (omega arith) (omega arith) in
    let here : parent left n ≡ number_among passes (parent tree w.was) = parent-of tree t passes closed n w in
    let there : parent left m ≡ number_among passes (parent tree u.was) = parent-of tree t passes closed m u in
    let is = w.is in
    let was = u.is in
    let before : u.was < w.was = by_less (u.was < w.was) u.was w.was (λ h. h) (λ h. let le = number-le passes w.was u.was h in absurd (omega arith)) in
    let lower : parent tree w.was < u.was =
    by_less (parent tree w.was < u.was) (parent tree w.was) u.was (λ h. h) (λ h. let le = number-le passes u.was (parent tree w.was) h in absurd (omega arith)) in
    let le = number-le passes (parent tree w.was) (parent tree u.was) (nested u.was w.was before lower) in
    omega arith)
    (λ past. let none = parent-past left n past in omega arith)

pub selection-in-order : (tree : List Row) → IsTree tree → IsPreorder tree → (only : List (List ℕ)) → IsPreorder (selection tree only)
selection-in-order tree t nested [] = nested
selection-in-order tree t nested (p ∷ ps) = left-in-order tree t (is_kept_by tree (p ∷ ps)) (kept-closed tree t (p ∷ ps)) nested

-- the nodes of a plan stand in preorder
pub plan-in-order : (ss : List Script) (only : List (List ℕ)) → IsPreorder (plan_tree ss only)
plan-in-order ss only = selection-in-order (tree ss) (tree-is ss) (tree-in-order ss) only
