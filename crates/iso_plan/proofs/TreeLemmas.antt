-- In the tree of scripts each node but the root stands in a class or the root, which comes before it.
use Rattle.std.proofs.Common.{◌≡◌, ℕ, ◌+◌, ◌<◌, ◌≤◌, List, [], ◌∷◌, ◌++◌, length, map, Bool, true, false, nat_lt, ◌==◌, refl, sym, ap, ◌∙◌, arith, append_assoc, append-nil}
use Rattle.std.proofs.lemmas.Bool.Decides.{nat_tests}
use Rattle.std.proofs.lemmas.List.{length-append, get_or_append_left, get_or_push, get_or_past, get_or-map, length-map}
use Rattle.iso_model.specs.Scripts.{Class, class, Member, class_member, test_member, Members, no_members, member, Script}
use Rattle.iso_plan.proofs.FullLemmas.{tree-full}
use Rattle.iso_model.specs.Targets.{effective}
use Rattle.iso_model.specs.declared.heads.Mark.{Mark}
use Rattle.iso_plan.specs.KeyTable.{kind_marks}
use Rattle.iso_plan.specs.Paths.{IsTree, StandEarlier, is_class_or_test, is_test, parent, row_at}
use Rattle.iso_plan.specs.Tree.{Kind, root, class_node, test_node, Row, root_row, test_row, class_row, top_row, member_rows, members_rows, class_rows, top_rows, team_rows, script_rows, effective_row, tree, with_marks, written_tree}

-- whether a node's number and its place below others are right
record Placed (rows : List Row) (n : ℕ) : Type 0 where
  below : parent rows n < n
  inner : is_test (row_at rows (parent rows n)).kind ≡ false

abbrev Fine : List Row → Type 0
Fine rows = (n : ℕ) → 0 < n → n < length rows → Placed rows n

less_or_last : (n l : ℕ) → n < l + 1 → (n == l) ≡ false → n < l
less_or_last n l h e = grind (arith, nat_tests)

same_from : (n l : ℕ) → (n == l) ≡ true → n ≡ l
same_from n l e = grind (arith, nat_tests)

fine_at : (rows : List Row) (r : Row) → Fine rows → r.parent < length rows → is_test (row_at rows r.parent).kind ≡ false
    → (n : ℕ) → 0 < n → n < length rows + 1 → (t : Bool) → (n == length rows) ≡ t → Placed (rows ++ r ∷ []) n
fine_at rows r fine low inside n pos h true e =
    let same : n ≡ length rows = same_from n (length rows) e in
    let here : row_at (rows ++ r ∷ []) n ≡ r = get_or_push rows r root_row n (sym same) in
    let up : parent (rows ++ r ∷ []) n ≡ r.parent = ap (λ (x : Row). x.parent) here in
    record {
      below = omega arith;
      inner = ap (λ p. is_test (row_at (rows ++ r ∷ []) p).kind) up ∙ ap (λ (x : Row). is_test x.kind) (get_or_append_left rows (r ∷ []) root_row r.parent low) ∙ inside;
    }
fine_at rows r fine low inside n pos h false e =
    let less : n < length rows = less_or_last n (length rows) h e in
    let old = fine n pos less in
    let here : row_at (rows ++ r ∷ []) n ≡ row_at rows n = get_or_append_left rows (r ∷ []) root_row n less in
    let up : parent (rows ++ r ∷ []) n ≡ parent rows n = ap (λ (x : Row). x.parent) here in
    let below : parent rows n < n = old.below in
    let within : parent rows n < length rows = omega arith in
    record {
      below = omega arith;
      inner = ap (λ p. is_test (row_at (rows ++ r ∷ []) p).kind) up ∙ ap (λ (x : Row). is_test x.kind) (get_or_append_left rows (r ∷ []) root_row (parent rows n) within) ∙ old.inner;
    }

fine_push : (rows : List Row) (r : Row) → Fine rows → r.parent < length rows → is_test (row_at rows r.parent).kind ≡ false → Fine (rows ++ r ∷ [])
fine_push rows r fine low inside n pos h =
    fine_at rows r fine low inside n pos (let l : length (rows ++ r ∷ []) ≡ length rows + 1 = length-append rows (r ∷ []) in omega arith) (n == length rows) refl

-- a class that stands somewhere still stands there when nodes are added
stays : (rows more : List Row) (p : ℕ) → p < length rows → is_test (row_at rows p).kind ≡ false → is_test (row_at (rows ++ more) p).kind ≡ false
stays rows more p h e = ap (λ (x : Row). is_test x.kind) (get_or_append_left rows more root_row p h) ∙ e

mutual
  fine_members : (ms : Members) (rows : List Row) (p n : ℕ) → n ≡ length rows → Fine rows → p < length rows → is_test (row_at rows p).kind ≡ false → Fine (rows ++ members_rows p n ms)
  fine_members no_members rows p n l fine low inside = rw append-nil fine
  fine_members (member m ms) rows p n l fine low inside =
      let first = member_rows p n m in
      let count : length (rows ++ first) ≡ length rows + length first = length-append rows first in
      let next : Fine (rows ++ first) = fine_member m rows p n l fine low inside in
      rw (← append_assoc) (fine_members ms (rows ++ first) p (n + length first) (omega arith) next (omega arith) (stays rows first p low inside))

  fine_member : (m : Member) (rows : List Row) (p n : ℕ) → n ≡ length rows → Fine rows → p < length rows → is_test (row_at rows p).kind ≡ false → Fine (rows ++ member_rows p n m)
  fine_member (test_member t) rows p n l fine low inside = fine_push rows (test_row p t) fine low inside
  fine_member (class_member c) rows p n l fine low inside = fine_class c rows p n l fine low inside

  fine_class : (c : Class) (rows : List Row) (p n : ℕ) → n ≡ length rows → Fine rows → p < length rows → is_test (row_at rows p).kind ≡ false → Fine (rows ++ class_rows p n c)
  fine_class (class c ms) rows p n l fine low here =
      let r = class_row p c in
      let count : length (rows ++ r ∷ []) ≡ length rows + 1 = length-append rows (r ∷ []) in
      let own : row_at (rows ++ r ∷ []) n ≡ r = get_or_push rows r root_row n (sym l) in
      rw (← append_assoc rows (r ∷ []) (members_rows n (n + 1) ms))
      (fine_members ms (rows ++ r ∷ []) n (n + 1) (omega arith) (fine_push rows r fine low here) (omega arith) (ap (λ (x : Row). is_test x.kind) own))

fine_top : (team : List ℕ) (c : Class) (rows : List Row) (n : ℕ) → n ≡ length rows → Fine rows → 0 < length rows → is_test (row_at rows 0).kind ≡ false → Fine (rows ++ top_rows team n c)
fine_top team (class c ms) rows n l fine low root_is =
    let r = top_row team c in
    let count : length (rows ++ r ∷ []) ≡ length rows + 1 = length-append rows (r ∷ []) in
    let own : row_at (rows ++ r ∷ []) n ≡ r = get_or_push rows r root_row n (sym l) in
    rw (← append_assoc rows (r ∷ []) (members_rows n (n + 1) ms))
    (fine_members ms (rows ++ r ∷ []) n (n + 1) (omega arith) (fine_push rows r fine low root_is) (omega arith) (ap (λ (x : Row). is_test x.kind) own))

fine_team : (team : List ℕ) (cs : List Class) (rows : List Row) (n : ℕ) → n ≡ length rows → Fine rows → 0 < length rows → is_test (row_at rows 0).kind ≡ false → Fine (rows ++ team_rows team n cs)
fine_team team [] rows n l fine low root_is = rw append-nil fine
fine_team team (c ∷ cs) rows n l fine low root_is =
    let first = top_rows team n c in
    let count : length (rows ++ first) ≡ length rows + length first = length-append rows first in
    rw (← append_assoc) (fine_team team cs (rows ++ first) (n + length first) (omega arith) (fine_top team c rows n l fine low root_is) (omega arith) (stays rows first 0 low root_is))

fine_scripts : (ss : List Script) (rows : List Row) (n : ℕ) → n ≡ length rows → Fine rows → 0 < length rows → is_test (row_at rows 0).kind ≡ false → Fine (rows ++ script_rows n ss)
fine_scripts [] rows n l fine low root_is = rw append-nil fine
fine_scripts (s ∷ ss) rows n l fine low root_is =
    let first = team_rows s.team n s.classes in
    let count : length (rows ++ first) ≡ length rows + length first = length-append rows first in
    rw (← append_assoc) (fine_scripts ss (rows ++ first) (n + length first) (omega arith) (fine_team s.team s.classes rows n l fine low root_is) (omega arith) (stays rows first 0 low root_is))

fine_tree : (ss : List Script) → Fine (written_tree ss)
fine_tree ss = fine_scripts ss (root_row ∷ []) 1 refl (λ n pos h. absurd (omega arith)) (omega arith) refl

below_by : (rows : List Row) → Fine rows → (n : ℕ) → 0 < n → (n < length rows → Placed rows n) → (length rows ≤ n → Placed rows n) → Placed rows n
below_by rows fine n pos known unknown = elim (nat_lt n (length rows)) as (λ t. (nat_lt n (length rows)) ≡ t → Placed rows n)
    [ true ↦ λ e. known (grind (arith, nat_tests)) | false ↦ λ e. unknown (grind (arith, nat_tests)) ] refl

placed : (ss : List Script) (n : ℕ) → 0 < n → Placed (written_tree ss) n
placed ss n pos =
    below_by (written_tree ss) (fine_tree ss) n pos (fine_tree ss n pos)
    (λ past.
    let here : row_at (written_tree ss) n ≡ root_row = get_or_past (written_tree ss) n root_row past in
    let up : parent (written_tree ss) n ≡ 0 = ap (λ (x : Row). x.parent) here in
    record { below = omega arith; inner = ap (λ p. is_test (row_at (written_tree ss) p).kind) up })

pub written-placed : (ss : List Script) → StandEarlier (written_tree ss)
written-placed ss = record { first = refl; below = λ n pos. (placed ss n pos).below }

-- a node of a tree is the written one, with its effective marks
past-effective : (rows : List Row) (n : ℕ) → length rows ≤ n → row_at (map (effective_row rows) rows) n ≡ effective_row rows (row_at rows n)
past-effective rows n past =
    let count = length-map rows (effective_row rows) in
    get_or_past (map (effective_row rows) rows) n root_row (omega (arith, count)) ∙ sym (ap (effective_row rows) (get_or_past rows n root_row past))

pub effective-at : (rows : List Row) (n : ℕ) → row_at (map (effective_row rows) rows) n ≡ effective_row rows (row_at rows n)
effective-at rows n =
    elim (nat_lt n (length rows)) as (λ t. (nat_lt n (length rows)) ≡ t → row_at (map (effective_row rows) rows) n ≡ effective_row rows (row_at rows n)) [
      | true ↦ λ e. let less : n < length rows = grind (arith, nat_tests) in get_or-map (effective_row rows) rows n root_row root_row less
      | false ↦ λ e. let past : length rows ≤ n = grind (arith, nat_tests) in past-effective rows n past
    ] refl

still_test : (ms : List Mark) (k : Kind) → is_test (with_marks ms k) ≡ is_test k
still_test ms root = refl
still_test ms (class_node isolated head) = refl
still_test ms (test_node head) = refl

still_written : (ms : List Mark) (k : Kind) → is_class_or_test (with_marks ms k) ≡ is_class_or_test k
still_written ms root = refl
still_written ms (class_node isolated head) = refl
still_written ms (test_node head) = refl

marks_are : (ms : List Mark) (k : Kind) → is_class_or_test k ≡ true → kind_marks (with_marks ms k) ≡ ms
marks_are ms root h = let wrong : false ≡ true = h in absurd (cc)
marks_are ms (class_node isolated head) h = refl
marks_are ms (test_node head) h = refl

module _ (ss : List Script) where
  abbrev rows : List Row
  rows = written_tree ss

  abbrev effective_there : ℕ → List Mark
  effective_there n = effective (row_at rows (parent rows n)).written (row_at rows n).written

  up : (n : ℕ) → parent (tree ss) n ≡ parent rows n
  up n = ap (λ (r : Row). r.parent) (effective-at rows n)

  kind_there : (n : ℕ) → (row_at (tree ss) n).kind ≡ with_marks (effective_there n) (row_at rows n).kind
  kind_there n = ap (λ (r : Row). r.kind) (effective-at rows n)

  written_there : (n : ℕ) → (row_at (tree ss) n).written ≡ (row_at rows n).written
  written_there n = ap (λ (r : Row). r.written) (effective-at rows n)

  within : (n : ℕ) → n < length (tree ss) → n < length rows
  within n less = let count : length (tree ss) ≡ length rows = length-map rows (effective_row rows) in omega (arith, count)

  pub tree-is : IsTree (tree ss)
  tree-is = record {
    rooted = omega arith;
    root_is = refl;
    below = λ n pos. let less = (placed ss n pos).below in rw (up n) less;
    inner = λ n pos.
        ap (λ (p : ℕ). is_test (row_at (tree ss) p).kind) (up n)
        ∙ ap is_test (kind_there (parent rows n)) ∙ still_test (effective_there (parent rows n)) (row_at rows (parent rows n)).kind ∙ (placed ss n pos).inner;
    full = λ n pos less. ap is_class_or_test (kind_there n) ∙ still_written (effective_there n) (row_at rows n).kind ∙ tree-full ss n pos (within n less);
    marked = λ n pos less.
        ap kind_marks (kind_there n) ∙ marks_are (effective_there n) (row_at rows n).kind (tree-full ss n pos (within n less))
        ∙ sym (λ i. effective ((ap (λ (p : ℕ). (row_at (tree ss) p).written) (up n) ∙ written_there (parent rows n)) i) (written_there n i));
  }
