-- The counts of the nodes so far, node by node.
use Rattle.std.proofs.Common.{◌≡◌, ◌<◌, ℕ, ◌+◌, List, Bool, true, false, ◌&&◌, not, refl, sym, ap, subst, ◌∙◌, arith, add-one}
use Rattle.iso_model.specs.declared.outcome.Outcome.{Outcome}
use Rattle.iso_model.specs.declared.outcome.Verdict.{Verdict}
use Rattle.iso_model.specs.declared.outcome.Verdict.TheVariants.{Pass, Fail, Fault, Skipped, Blocked}
use Rattle.iso_plan.specs.Paths.{is_class_or_test, is_test, row_at}
use Rattle.iso_plan.specs.Tree.{Kind, root, class_node, test_node, Row}
use Rattle.iso_failures.specs.Counting.{counts_below, how_many}
use Rattle.iso_failures.specs.CountingSteps.{AreBelow, plus, with_node}
use Rattle.iso_failures.specs.Nodes.{has_failed, has_passed, is_class, is_class_with, is_test_with, was_blocked, was_skipped}
use Rattle.iso_failures.specs.declared.counts.Counts.{Counts}
use Rattle.iso_failures.proofs.Sums.{many-four, many-small, many-step, one}

plus_one : (t : Bool) (n : ℕ) → plus t n ≡ n + one t
plus_one true n = refl
plus_one false n = omega arith

next : (p : ℕ → Bool) (n : ℕ) → how_many p (n + 1) ≡ plus (p n) (how_many p n)
next p n = ap (how_many p) (add-one n) ∙ many-step p n ∙ sym (plus_one (p n) (how_many p n))

-- a node that is a class or a test is a class where it is no test
class_is : (k : Kind) → is_class_or_test k ≡ true → is_class k ≡ not (is_test k)
class_is root h = absurd (cc)
class_is (class_node i d) h = refl
class_is (test_node t) h = refl

and_true : (b : Bool) → (b && true) ≡ b
and_true true = refl
and_true false = refl

abbrev make : (tests ok skipped not_ok blocked classes classes_not_ok : ℕ) → Counts
make tests ok skipped not_ok blocked classes classes_not_ok =
    record { tests = tests; ok = ok; skipped = skipped; not_ok = not_ok; blocked = blocked; classes = classes; classes_not_ok = classes_not_ok }

same : {a b c d e f g a' b' c' d' e' f' g' : ℕ} → a ≡ a' → b ≡ b' → c ≡ c' → d ≡ d' → e ≡ e' → f ≡ f' → g ≡ g' → make a b c d e f g ≡ make a' b' c' d' e' f' g'
same h i j k l m n = rw (h, i, j, k, l, m, n) refl

-- one more of those that pass, where it is known whether the next one does
counted : (p : ℕ → Bool) (n : ℕ) (t : Bool) → t ≡ p n → plus t (how_many p n) ≡ how_many p (n + 1)
counted p n t e = ap (λ (b : Bool). plus b (how_many p n)) e ∙ sym (next p n)

module _ (tree : List Row) (outcome : ℕ → Outcome) where
  test_is : (n : ℕ) (t : Bool) (v : Verdict) (such : Verdict → Bool) → t ≡ is_test (row_at tree n).kind → v ≡ (outcome n).verdict → (t && such v) ≡ is_test_with tree outcome such n
  test_is n t v such e f = rw (e, f) refl

  class_at : (n : ℕ) (t : Bool) (v : Verdict) (such : Verdict → Bool) → t ≡ is_test (row_at tree n).kind → v ≡ (outcome n).verdict → is_class_or_test (row_at tree n).kind ≡ true
      → (not t && such v) ≡ is_class_with tree outcome such n
  class_at n t v such e f is = rw (e, f, class_is (row_at tree n).kind is) refl

  -- the counts with the next node more
  pub counts-next : (c : Counts) (n : ℕ) (t : Bool) (v : Verdict) → c ≡ counts_below tree outcome n → t ≡ is_test (row_at tree n).kind → v ≡ (outcome n).verdict
      → is_class_or_test (row_at tree n).kind ≡ true → with_node t v c ≡ counts_below tree outcome (n + 1)
  counts-next c n t v before e f is =
      ap (with_node t v) before
      ∙ same
      (counted _ n t (sym (and_true t) ∙ test_is n t v (λ v. true) e f))
      (counted _ n _ (test_is n t v has_passed e f)) (counted _ n _ (test_is n t v was_skipped e f)) (counted _ n _ (test_is n t v has_failed e f)) (counted _ n _ (test_is n t v was_blocked e f))
      (counted _ n (not t) (sym (and_true (not t)) ∙ class_at n t v (λ v. true) e f is))
      (counted _ n _ (class_at n t v has_failed e f is))

  -- no count is greater than the number of the nodes so far
  pub counts-small : (c : Counts) (n most : ℕ) → c ≡ counts_below tree outcome n → n < most → AreBelow most c
  counts-small c n most e less =
      subst (AreBelow most) (sym e)
      (record {
        tests = small (is_test_with tree outcome (λ v. true));
        ok = small (is_test_with tree outcome has_passed);
        skipped = small (is_test_with tree outcome was_skipped);
        not_ok = small (is_test_with tree outcome has_failed);
        blocked = small (is_test_with tree outcome was_blocked);
        classes = small (is_class_with tree outcome (λ v. true));
        classes_not_ok = small (is_class_with tree outcome has_failed);
      })
    where
      small : (p : ℕ → Bool) → how_many p n < most
      small p = let low = many-small p n in omega arith

  four_of : (t : Bool) (v : Verdict) → one (t && has_passed v) + one (t && was_skipped v) + one (t && has_failed v) + one (t && was_blocked v) ≡ one (t && true)
  four_of false v = refl
  four_of true Pass = refl
  four_of true (Fail note) = refl
  four_of true (Fault kind note) = refl
  four_of true (Skipped note) = refl
  four_of true (Blocked note) = refl

  -- each test is one of four
  pub tests-of-four : (n : ℕ) → let all = counts_below tree outcome n in all.ok + all.skipped + all.not_ok + all.blocked ≡ all.tests
  tests-of-four n =
      many-four (is_test_with tree outcome has_passed) (is_test_with tree outcome was_skipped) (is_test_with tree outcome has_failed) (is_test_with tree outcome was_blocked)
      (is_test_with tree outcome (λ v. true)) n
      (λ m. four_of (is_test (row_at tree m).kind) (outcome m).verdict)
