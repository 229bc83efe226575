-- The counts of all testcases beside those of a run's summary.
use Rattle.std.proofs.Common.{◌≡◌, ◌<◌, ℕ, zero, suc, ◌+◌, List, [], ◌∷◌, ◌++◌, length, Bool, true, false, ◌&&◌, ◌||◌, not, cond, filter, refl, sym, ap, ◌∙◌, arith, append-nil, true≢false}
use Rattle.std.proofs.lemmas.List.Elements.{filter-append}
use Rattle.iso_failures.proofs.Sums.{many-both, many-none, one}
use Rattle.iso_failures.specs.Counting.{counts, how_many}
use Rattle.iso_failures.specs.Nodes.{has_failed, is_class, is_class_with, is_test_with, was_blocked, was_skipped}
use Rattle.iso_junit.specs.Cases.{all_cases, is_case}
use Rattle.iso_junit.specs.Runs.{RunView}
use Rattle.iso_junit.specs.Tallies.{is_error, is_fail, tally}
use Rattle.iso_model.specs.declared.outcome.Verdict.{Verdict}
use Rattle.iso_model.specs.declared.outcome.Verdict.TheVariants.{Pass, Fail, Fault, Skipped, Blocked}
use Rattle.iso_plan.specs.Paths.{IsTree, is_class_or_test, is_root, is_test, row_at}
use Rattle.iso_plan.specs.KeptNodes.{those_below}
use Rattle.iso_plan.specs.Tree.{Kind, root, class_node, test_node, Row}

-- those of some numbers that pass a second test pass both
both_by : (p q : ℕ → Bool) (n : ℕ) (ns : List ℕ) (s t : Bool)
    → cond s (ns ++ cond t (n ∷ []) []) ns ≡ cond (s && t) (ns ++ n ∷ []) ns
both_by p q n ns true true = refl
both_by p q n ns true false = append-nil ns
both_by p q n ns false t = refl

filter_if : (q : ℕ → Bool) (n : ℕ) (ns : List ℕ) (s : Bool) → filter q (cond s (ns ++ n ∷ []) ns) ≡ cond s (filter q ns ++ cond (q n) (n ∷ []) []) (filter q ns)
filter_if q n ns true = filter-append q ns (n ∷ [])
filter_if q n ns false = refl

pub filter-those : (p q : ℕ → Bool) (n : ℕ) → filter q (those_below p n) ≡ those_below (λ m. p m && q m) n
filter-those p q zero = refl
filter-those p q (suc n) =
    filter_if q n (those_below p n) (p n)
    ∙ ap (λ (ns : List ℕ). cond (p n) (ns ++ cond (q n) (n ∷ []) []) ns) (filter-those p q n)
    ∙ both_by p q n (those_below (λ m. p m && q m) n) (p n) (q n)

-- a node counts among the testcases as it does among tests and among classes
abbrev Adds : (such of_test of_class : Verdict → Bool) → (is_root : Bool) → Kind → Verdict → Type 0
Adds such of_test of_class is_root k v =
    one ((not is_root && (is_test k || has_failed v)) && such v) ≡ one (is_test k && of_test v) + one (is_class k && of_class v)

module _ (such of_test of_class : Verdict → Bool) (test_same : (v : Verdict) → such v ≡ of_test v) (class_same : (v : Verdict) → (has_failed v && such v) ≡ of_class v) where
  inner_adds : (k : Kind) (v : Verdict) → is_class_or_test k ≡ true → Adds such of_test of_class false k v
  inner_adds root v h = absurd (true≢false (sym h))
  inner_adds (class_node i d) v h = ap one (class_same v) ∙ omega arith
  inner_adds (test_node d) v h = ap one (test_same v) ∙ omega arith

  node_adds : (r : RunView) → IsTree r.tree → (n : ℕ) → n < length r.tree → Adds such of_test of_class (is_root n) (row_at r.tree n).kind (r.outcome n).verdict
  node_adds r t zero less = let top = ap (λ (x : Row). x.kind) t.root_is in rw top refl
  node_adds r t (suc n) less = inner_adds (row_at r.tree (suc n)).kind (r.outcome (suc n)).verdict (t.full (suc n) (omega arith) less)

  -- so do all together
  all_add : (r : RunView) → IsTree r.tree → length (filter (λ n. such (r.outcome n).verdict) (all_cases r))
      ≡ how_many (is_test_with r.tree r.outcome of_test) (length r.tree) + how_many (is_class_with r.tree r.outcome of_class) (length r.tree)
  all_add r t =
      ap length (filter-those (is_case r) (λ n. such (r.outcome n).verdict) (length r.tree))
      ∙ many-both (λ n. is_case r n && such (r.outcome n).verdict) (is_test_with r.tree r.outcome of_test) (is_class_with r.tree r.outcome of_class) (length r.tree)
      (node_adds r t)

and_true : (b : Bool) → (b && true) ≡ b
and_true true = refl
and_true false = refl

keep_all : (ns : List ℕ) → filter (λ n. true) ns ≡ ns
keep_all [] = refl
keep_all (n ∷ ns) = ap (λ (ms : List ℕ). n ∷ ms) (keep_all ns)

pub tests-counted : (r : RunView) → IsTree r.tree
    → let all = tally r (all_cases r) in let summary = counts r.tree r.outcome in all.tests ≡ summary.tests + summary.classes_not_ok
tests-counted r t =
    ap length (sym (keep_all (all_cases r)))
    ∙ all_add (λ v. true) (λ v. true) has_failed (λ v. refl) (λ v. and_true (has_failed v)) r t

no_skipped : (v : Verdict) → (has_failed v && was_skipped v) ≡ false
no_skipped Pass = refl
no_skipped (Fail note) = refl
no_skipped (Fault kind note) = refl
no_skipped (Skipped note) = refl
no_skipped (Blocked note) = refl

and_false : (b : Bool) → (b && false) ≡ false
and_false true = refl
and_false false = refl

pub skipped-counted : (r : RunView) → IsTree r.tree
    → let all = tally r (all_cases r) in let summary = counts r.tree r.outcome in all.skipped ≡ summary.skipped
skipped-counted r t =
    let sums = all_add was_skipped was_skipped (λ v. false) (λ v. refl) no_skipped r t in
    let none = many-none (is_class_with r.tree r.outcome (λ v. false)) (length r.tree) (λ n less. and_false (is_class (row_at r.tree n).kind)) in
    omega arith

abbrev is_problem : Verdict → Bool
is_problem v = is_fail v || is_error v

test_problem : (v : Verdict) → is_problem v ≡ (has_failed v || was_blocked v)
test_problem Pass = refl
test_problem (Fail note) = refl
test_problem (Fault kind note) = refl
test_problem (Skipped note) = refl
test_problem (Blocked note) = refl

class_problem : (v : Verdict) → (has_failed v && is_problem v) ≡ has_failed v
class_problem Pass = refl
class_problem (Fail note) = refl
class_problem (Fault kind note) = refl
class_problem (Skipped note) = refl
class_problem (Blocked note) = refl

case_apart : (b : Bool) (v : Verdict) → one (b && is_problem v) ≡ one (b && is_fail v) + one (b && is_error v)
case_apart false v = refl
case_apart true Pass = refl
case_apart true (Fail note) = refl
case_apart true (Fault kind note) = refl
case_apart true (Skipped note) = refl
case_apart true (Blocked note) = refl

test_apart : (b : Bool) (v : Verdict) → one (b && (has_failed v || was_blocked v)) ≡ one (b && has_failed v) + one (b && was_blocked v)
test_apart false v = refl
test_apart true Pass = refl
test_apart true (Fail note) = refl
test_apart true (Fault kind note) = refl
test_apart true (Skipped note) = refl
test_apart true (Blocked note) = refl

pub problems-counted : (r : RunView) → IsTree r.tree
    → let all = tally r (all_cases r) in let summary = counts r.tree r.outcome in
    all.failures + all.errors ≡ summary.not_ok + summary.blocked + summary.classes_not_ok
problems-counted r t =
    let len = length r.tree in
    let v : ℕ → Verdict = λ (n : ℕ). (r.outcome n).verdict in
    let test : ℕ → Bool = λ (n : ℕ). is_test (row_at r.tree n).kind in
    let sums = all_add is_problem (λ u. has_failed u || was_blocked u) has_failed test_problem class_problem r t in
    let all = ap length (filter-those (is_case r) (λ n. is_problem (v n)) len) in
    let fails = ap length (filter-those (is_case r) (λ n. is_fail (v n)) len) in
    let errors = ap length (filter-those (is_case r) (λ n. is_error (v n)) len) in
    let apart =
    many-both (λ n. is_case r n && is_problem (v n)) (λ n. is_case r n && is_fail (v n)) (λ n. is_case r n && is_error (v n)) len
    (λ n less. case_apart (is_case r n) (v n)) in
    let tests =
    many-both (is_test_with r.tree r.outcome (λ u. has_failed u || was_blocked u)) (is_test_with r.tree r.outcome has_failed) (is_test_with r.tree r.outcome was_blocked) len
    (λ n less. test_apart (test n) (v n)) in
    omega arith
