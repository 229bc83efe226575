-- Testcases and testsuites, one by one.
use Rattle.std.proofs.Common.{◌≡◌, ◌<◌, ◌≤◌, ℕ, zero, suc, ◌+◌, List, [], ◌∷◌, ◌++◌, length, get_or, take, drop, Bool, true, false, ◌&&◌, ◌==◌, not, cond, filter, flat_map, Option, refl, sym, ap, ap₂, subst, ◌∙◌, arith, add-one, append_assoc, append-nil, length-append}
use Rattle.std.proofs.lemmas.List.Concat.{flat_map-append}
use Rattle.std.proofs.lemmas.List.Elements.{filter_more}
use Rattle.iso_plan.proofs.NumberLemmas.{number-small, those-next, those-skip}
use Rattle.iso_plan.specs.Paths.{IsTree, children, children_below, is_root, parent}
use Rattle.iso_plan.specs.KeptNodes.{those_below}
use Rattle.iso_plan.specs.Tree.{Row}
use Rattle.iso_junit.proofs.TallyLemmas.{few, tally-push, tally-small}
use Rattle.iso_junit.specs.Cases.{cases, failed_itself, is_a_test, is_case}
use Rattle.iso_junit.specs.Documents.{case_head, case_text}
use Rattle.iso_junit.specs.Elements.{result_text}
use Rattle.iso_junit.specs.Runs.{PlacedView, RunView, time}
use Rattle.iso_junit.specs.Tallies.{tally}
use Rattle.iso_junit.specs.TallySteps.{AreBelow, with_case}
use Rattle.iso_junit.specs.declared.tally.Tally.{Tally}
use Rattle.iso_model.specs.declared.outcome.Outcome.{Outcome}
use Rattle.iso_tap.proofs.PrinterLemmas.{drop_next}
use Rattle.iso_tap.proofs.ReportLemmas.{child-at}
use Rattle.iso_tap.proofs.Within.{IsChild}

-- a node has no more children than there are nodes
few_below : (tree : List Row) (m n : ℕ) → length (children_below tree m n) ≤ n
few_below tree m zero = omega arith
few_below tree m (suc n) = by (not (is_root n) && parent tree n == m) (few_below tree m n)
  where
    by : (b : Bool) → length (children_below tree m n) ≤ n → length (cond b (children_below tree m n ++ n ∷ []) (children_below tree m n)) ≤ suc n
    by true h = let long = length-append (children_below tree m n) (n ∷ []) in omega arith
    by false h = omega arith

pub few-children : (tree : List Row) (m : ℕ) → length (children tree m) ≤ length tree
few-children tree m = few_below tree m (length tree)

module _ (text : ℕ → List ℕ) (p : ℕ → Bool) where
  abbrev texts : List ℕ → List ℕ
  texts ns = flat_map text (filter p ns)

  first_by : (n : ℕ) (ns : List ℕ) (b : Bool) → flat_map text (cond b (n ∷ filter p ns) (filter p ns)) ≡ cond b (text n) [] ++ texts ns
  first_by n ns true = refl
  first_by n ns false = refl

  -- the texts of those that pass, from one on, with the first apart
  pub texts-next : (ns : List ℕ) (i d : ℕ) → i < length ns
      → flat_map text (filter p (drop i ns)) ≡ cond (p (get_or ns i d)) (text (get_or ns i d)) [] ++ flat_map text (filter p (drop (i + 1) ns))
  texts-next ns i d less = ap texts (drop_next ns i d less) ∙ first_by (get_or ns i d) (drop (i + 1) ns) (p (get_or ns i d))

module _ (r : RunView) where
  own_by : (text : ℕ → List ℕ) (n : ℕ) (b : Bool) → flat_map text (cond b (n ∷ []) []) ≡ cond b (text n) []
  own_by text n true = append-nil (text n)
  own_by text n false = refl

  -- the testcases of a class, with its own apart
  pub cases-apart : (class : ℕ) → flat_map (case_text r class) (cases r class)
      ≡ cond (failed_itself r class) (case_text r class class) [] ++ flat_map (case_text r class) (filter (is_a_test r) (children r.tree class))
  cases-apart class =
      flat_map-append (case_text r class) (filter (failed_itself r) (class ∷ [])) (filter (is_a_test r) (children r.tree class))
      ∙ ap (λ (t : List ℕ). t ++ flat_map (case_text r class) (filter (is_a_test r) (children r.tree class))) (own_by (case_text r class) class (failed_itself r class))

  -- the testcases of a class so far
  abbrev pub so_far : (class : ℕ) (ns : List ℕ) → List ℕ
  so_far class ns = filter (failed_itself r) (class ∷ []) ++ filter (is_a_test r) ns

  pub so-far-next : (class i d : ℕ) (ns : List ℕ) → i < length ns → is_a_test r (get_or ns i d) ≡ true
      → so_far class (take (i + 1) ns) ≡ so_far class (take i ns) ++ get_or ns i d ∷ []
  so-far-next class i d ns less e =
      ap (λ (t : List ℕ). filter (failed_itself r) (class ∷ []) ++ t) (filter_more (is_a_test r) ns i d less ∙ ap (λ (b : Bool). filter (is_a_test r) (take i ns) ++ cond b (get_or ns i d ∷ []) []) e)
      ∙ sym (append_assoc (filter (failed_itself r) (class ∷ [])) (filter (is_a_test r) (take i ns)) (get_or ns i d ∷ []))

  pub so-far-same : (class i d : ℕ) (ns : List ℕ) → i < length ns → is_a_test r (get_or ns i d) ≡ false → so_far class (take (i + 1) ns) ≡ so_far class (take i ns)
  so-far-same class i d ns less e =
      ap (λ (t : List ℕ). filter (failed_itself r) (class ∷ []) ++ t)
      (filter_more (is_a_test r) ns i d less ∙ ap (λ (b : Bool). filter (is_a_test r) (take i ns) ++ cond b (get_or ns i d ∷ []) []) e ∙ append-nil (filter (is_a_test r) (take i ns)))

  -- they are few
  pub so-far-few : (class : ℕ) (ns : List ℕ) → length (so_far class ns) ≤ length ns + 1
  so-far-few class ns =
      let both = length-append (filter (failed_itself r) (class ∷ [])) (filter (is_a_test r) ns) in
      let own = few r (failed_itself r) (class ∷ []) in
      let tests = few r (is_a_test r) ns in
      omega arith

  -- all testcases so far
  pub all-next : (n : ℕ) → is_case r n ≡ true → those_below (is_case r) (n + 1) ≡ those_below (is_case r) n ++ n ∷ []
  all-next n e = ap (those_below (is_case r)) (add-one n) ∙ those-next (is_case r) n e

  pub all-same : (n : ℕ) → is_case r n ≡ false → those_below (is_case r) (n + 1) ≡ those_below (is_case r) n
  all-same n e = ap (those_below (is_case r)) (add-one n) ∙ those-skip (is_case r) n e

  pub all-few : (n : ℕ) → length (those_below (is_case r) n) ≤ n
  all-few n = number-small (is_case r) n

-- The child at a place is a node, and not the root.
pub child-within : (tree : List Row) (class i : ℕ) (items : List ℕ) → IsTree tree → items ≡ children tree class → i < length items
    → (0 < get_or items i 0) × (get_or items i 0 < length tree)
child-within tree class i items t e less =
    let here : i < length (children tree class) = rw (sym e) less in
    let is : IsChild tree class (get_or items i 0) = rw e (child-at tree class i 0 t here) in
    (is.0, is.2)

-- The counts with a testcase more.
pub tally-next : (r : RunView) (ns : List ℕ) (n : ℕ) (c : Tally) (o : Outcome) (t : Option ℕ) → c ≡ tally r ns → o ≡ r.outcome n → t ≡ time r n
    → with_case o.verdict t c ≡ tally r (ns ++ n ∷ [])
tally-next r ns n c o t e f h =
    ap (with_case o.verdict t) e ∙ ap₂ (λ (x : Outcome) (y : Option ℕ). with_case x.verdict y (tally r ns)) f h ∙ sym (tally-push r ns n)

-- They are small.
pub counts-small : (r : RunView) (ns : List ℕ) (c : Tally) → c ≡ tally r ns → length ns < 18446744073709551615 → AreBelow 18446744073709551615 c
counts-small r ns c e less = subst (AreBelow 18446744073709551615) (sym e) (tally-small r ns 18446744073709551615 less)

-- The beginning of a testcase, by equal parts.
pub head-same : (path : List ℕ) {name name' : List ℕ} {at at' : PlacedView} {t t' : Option ℕ} → name ≡ name' → at ≡ at' → t ≡ t' → case_head name path at t ≡ case_head name' path at' t'
head-same path e f h = rw (e, f, h) refl

-- What a testcase came to, by equal parts.
pub result-same : {at at' : PlacedView} {o p : Outcome} → at ≡ at' → o ≡ p → result_text at o.verdict ≡ result_text at' p.verdict
result-same e f = ap₂ (λ (a : PlacedView) (o : Outcome). result_text a o.verdict) e f
