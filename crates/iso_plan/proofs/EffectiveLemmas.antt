-- Nodes that get their effective marks one after another.
use Rattle.std.proofs.Common.{◌≡◌, ℕ, zero, suc, ◌+◌, ◌-◌, ◌<◌, ◌≤◌, List, [], ◌∷◌, ◌++◌, length, map, filter, set, Bool, true, false, cond, nat_lt, ◌==◌, refl, sym, subst, ap, ap₂, ◌∙◌, arith}
use Rattle.std.proofs.lemmas.Bool.Decides.{nat_tests}
use Rattle.std.proofs.lemmas.List.{get_or-map, get_or-set_same, get_or-set_other, get_or_default, length-map, length-set, same_lists, set-get_or}
use Rattle.iso_model.specs.Targets.{effective, for_itself, is_target, marks_for}
use Rattle.iso_model.specs.declared.heads.Mark.{Mark}
use Rattle.iso_model.specs.declared.heads.Target.{Target}
use Rattle.iso_plan.proofs.PathLemmas.{eq_from, eq_same}
use Rattle.iso_plan.specs.KeyTable.{kind_marks}
use Rattle.iso_plan.specs.Paths.{StandEarlier, is_test, parent, row_at}
use Rattle.iso_plan.specs.Repeated.{effective_at}
use Rattle.iso_plan.specs.Tree.{Kind, root, class_node, test_node, Row, root_row, effective_row, with_marks}

-- of one list of marks after another
pub marks_for-next : (t : Target) (m : Mark) (ms : List Mark) → marks_for t (m ∷ ms) ≡ marks_for t (m ∷ []) ++ marks_for t ms
marks_for-next t m ms =
    elim (is_target t m.target) as (λ (b : Bool). let some = filter (λ n. is_target t n.target) ms in map for_itself (cond b (m ∷ some) some) ≡ map for_itself (cond b (m ∷ []) []) ++ map
    for_itself some) [ true ↦ refl | false ↦ refl ]

-- the first n of these nodes have their effective marks, and the others those that are written on them
pub record IsPartly (old new : List Row) (n : ℕ) : Type 0 where
  pub count : length new ≡ length old
  pub done : (m : ℕ) → m < n → m < length old → row_at new m ≡ effective_row old (row_at old m)
  pub rest : (m : ℕ) → n ≤ m → row_at new m ≡ row_at old m

pub none-effective : (rows : List Row) → IsPartly rows rows 0
none-effective rows = record { count = refl; done = λ m less within. absurd (omega arith); rest = λ m h. refl }

-- no written mark is changed
pub written-kept : (old new : List Row) (n m : ℕ) → IsPartly old new n → m < length old → (row_at new m).written ≡ (row_at old m).written
written-kept old new n m p within =
    elim (nat_lt m n) as (λ t. (nat_lt m n) ≡ t → (row_at new m).written ≡ (row_at old m).written) [
      | true ↦ λ e. let less : m < n = grind (arith, nat_tests) in ap (λ (r : Row). r.written) (p.done m less within)
      | false ↦ λ e. let past : n ≤ m = grind (arith, nat_tests) in ap (λ (r : Row). r.written) (p.rest m past)
    ] refl

parent-within : (rows : List Row) (n : ℕ) → StandEarlier rows → n < length rows → parent rows n < length rows
parent-within rows zero s less = let first = s.first in omega arith
parent-within rows (suc n) s less = let below = s.below (suc n) (omega arith) in omega arith

-- a node whose class is there has it there still
pub parent-there : (old new : List Row) (n : ℕ) → IsPartly old new n → StandEarlier old → n < length old → parent new n < length new
parent-there old new n p s less =
    let same : parent new n ≡ parent old n = ap (λ (r : Row). r.parent) (p.rest n (omega arith)) in
    let within = parent-within old n s less in
    let count = p.count in
    omega arith

same-number : (m n : ℕ) → (m == n) ≡ true → m ≡ n
same-number m n e = eq_from m n e

-- a node more
pub next-effective : (old new : List Row) (n : ℕ) (k : Kind) (r : Row) → IsPartly old new n → StandEarlier old → n < length old → r ≡ row_at new n
    → k ≡ with_marks (effective (row_at new r.parent).written r.written) r.kind → IsPartly old (set new n (record r { kind = k })) (n + 1)
next-effective old new n k r p s less is kind =
    let here : r ≡ row_at old n = is ∙ p.rest n (omega arith) in
    let class : (row_at new r.parent).written ≡ (row_at old (parent old n)).written =
    ap (λ (q : Row). (row_at new q.parent).written) here ∙ written-kept old new n (parent old n) p (parent-within old n s less) in
    let made : k ≡ with_marks (effective (row_at old (parent old n)).written (row_at old n).written) (row_at old n).kind =
    kind ∙ (λ i. with_marks (effective (class i) (here i).written) (here i).kind) in
    let value : record r { kind = k } ≡ effective_row old (row_at old n) = λ i. record (here i) { kind = made i } in
    let count = p.count in
    record {
      count = length-set new n (record r { kind = k }) ∙ p.count;
      done = λ m before within.
          elim (m == n) as (λ t. (m == n) ≡ t → row_at (set new n (record r { kind = k })) m ≡ effective_row old (row_at old m)) [
            | true ↦ λ e.
                let same = same-number m n e in
                ap (row_at (set new n (record r { kind = k }))) same ∙ get_or-set_same new n (record r { kind = k }) root_row (omega arith) ∙ value
                ∙ ap (λ (j : ℕ). effective_row old (row_at old j)) (sym same)
            | false ↦ λ e.
                get_or-set_other new n m (record r { kind = k }) root_row (λ same. let yes : (m == n) ≡ true = ap (λ j. m == j) (sym same) ∙ eq_same m in absurd (cc))
                ∙ p.done m (grind (arith, nat_tests)) within
          ] refl;
      rest = λ m past. get_or-set_other new n m (record r { kind = k }) root_row (λ same. absurd (omega arith)) ∙ p.rest m (omega arith);
    }

without_marks : (k : Kind) → kind_marks k ≡ [] → with_marks [] k ≡ k
without_marks root e = refl
without_marks (class_node isolated head) e = λ i. class_node isolated (record head { marks = sym e i })
without_marks (test_node head) e = λ i. test_node (record head { marks = sym e i })

-- one that has no marks and gets none
pub bare-effective : (old new : List Row) (n : ℕ) → IsPartly old new n → StandEarlier old → n < length old → effective (row_at new (parent new n)).written (row_at new n).written ≡ []
    → kind_marks (row_at new n).kind ≡ [] → IsPartly old new (n + 1)
bare-effective old new n p s less none bare =
    let r = row_at new n in
    let kind : r.kind ≡ with_marks (effective (row_at new r.parent).written r.written) r.kind = sym (ap (λ (ms : List Mark). with_marks ms r.kind) none ∙ without_marks r.kind bare) in
    subst (λ (rows : List Row). IsPartly old rows (n + 1)) (set-get_or new n root_row) (next-effective old new n r.kind r p s less refl kind)

test-marks : (ms : List Mark) (k : Kind) → is_test (with_marks ms k) ≡ true → kind_marks (with_marks ms k) ≡ ms
test-marks ms root e = absurd (cc)
test-marks ms (class_node isolated head) e = refl
test-marks ms (test_node head) e = refl

-- a test before these has its effective marks
pub before-effective : (old new : List Row) (n : ℕ) → IsPartly old new n → StandEarlier old → 0 < n → n < length old → is_test (row_at new (n - 1)).kind ≡ true
    → kind_marks (row_at new (n - 1)).kind ≡ effective_at new (n - 1)
before-effective old new n p s above less t =
    let m : ℕ = n - 1 in
    let earlier : m < n = omega arith in
    let within : m < length old = omega arith in
    let done : row_at new m ≡ effective_row old (row_at old m) = p.done m earlier within in
    let kind : (row_at new m).kind ≡ with_marks (effective_at old m) (row_at old m).kind = ap (λ (r : Row). r.kind) done in
    let test : is_test (with_marks (effective_at old m) (row_at old m).kind) ≡ true = sym (ap is_test kind) ∙ t in
    let up : parent new m ≡ parent old m = ap (λ (r : Row). r.parent) done in
    let class : (row_at new (parent new m)).written ≡ (row_at old (parent old m)).written =
    ap (λ (j : ℕ). (row_at new j).written) up ∙ written-kept old new n (parent old m) p (parent-within old m s within) in
    let own : (row_at new m).written ≡ (row_at old m).written = written-kept old new n m p within in
    ap kind_marks kind ∙ test-marks (effective_at old m) (row_at old m).kind test ∙ sym (ap₂ effective class own)

-- all nodes
pub all-effective : (old new : List Row) (n : ℕ) → IsPartly old new n → length old ≤ n → new ≡ map (effective_row old) old
all-effective old new n p last =
    same_lists new (map (effective_row old) old) (p.count ∙ sym (length-map old (effective_row old)))
    (λ m d within.
    let count = p.count in
    let less : m < length old = omega arith in
    get_or_default new m d root_row within ∙ p.done m (omega arith) less ∙ sym (get_or-map (effective_row old) old m root_row d less))
