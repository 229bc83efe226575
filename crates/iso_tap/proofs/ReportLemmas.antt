-- What is said of a node, from what is said of its children.
use Rattle.std.proofs.Common.{◌≡◌, ◌<◌, ◌≤◌, ℕ, zero, suc, ◌+◌, List, [], ◌∷◌, ◌++◌, length, get_or, Bool, true, false, ◌&&◌, cond, refl, sym, ap, ap₂, ◌∙◌, arith}
use Rattle.std.specs.List.{AllByRecursion, list_all}
use Rattle.std.proofs.lemmas.List.Elements.{All-get_or, recursion_from_All}
use Rattle.iso_model.specs.declared.outcome.Outcome.{Outcome}
use Rattle.iso_plan.specs.Paths.{IsTree, children, is_test, row_at}
use Rattle.iso_plan.specs.Tree.{Row}
use Rattle.iso_tap.specs.ReportBlocks.{point}
use Rattle.iso_tap.specs.ReportLines.{is_ok_verdict, plan_line, subtest_line}
use Rattle.iso_tap.specs.Reports.{is_ok, numbered, reported, reported_within, subtest}
use Rattle.iso_tap.proofs.Within.{IsChild, children-are, within-down}

-- the child at a place
pub child-at : (tree : List Row) (m i : ℕ) (d : ℕ) → IsTree tree → i < length (children tree m) → IsChild tree m (get_or (children tree m) i d)
child-at tree m i d t h = All-get_or (IsChild tree m) (children tree m) i d h (children-are tree m t)

-- whether all are, once it is known of one more
pub all-next : (f : ℕ → Bool) (xs ys zs : List ℕ) (x : ℕ) (a b : Bool) → ys ≡ x ∷ zs → b ≡ f x → (a && list_all f ys) ≡ list_all f xs → ((a && b) && list_all f zs) ≡ list_all f xs
all-next f xs ys zs x true b e is h = ap (λ v. v && list_all f zs) is ∙ ap (list_all f) (sym e) ∙ h
all-next f xs ys zs x false b e is h = h

numbered_same : (tree : List Row) (m : ℕ) (f g : ℕ → ℕ → List ℕ) → ((i n : ℕ) → IsChild tree m n → f i n ≡ g i n)
    → (i : ℕ) (ns : List ℕ) → AllByRecursion (IsChild tree m) ns → numbered f i ns ≡ numbered g i ns
numbered_same tree m f g same i [] h = refl
numbered_same tree m f g same i (n ∷ ns) h = ap₂ (λ a b. a ++ b) (same i n h.0) (numbered_same tree m f g same (i + 1) ns h.1)

pub point-same : (indent number : ℕ) {b c : Bool} {s t : List ℕ} {o p : Outcome} → b ≡ c → s ≡ t → o ≡ p → point indent number b s o ≡ point indent number c t p
point-same indent number e f h = rw (e, f, h) refl

module _ (tree : List Row) (outcome : ℕ → Outcome) (t : IsTree tree) where
  -- whether a point is ok, from its children's
  pub ok-down : (n : ℕ) → 0 < n → n < length tree → is_ok tree outcome n ≡ (is_ok_verdict (outcome n).verdict && list_all (is_ok tree outcome) (children tree n))
  ok-down n pos h = within-down tree t (λ m. is_ok_verdict (outcome m).verdict) n pos h

  -- the same, where an equal outcome is known
  pub ok-by : (n : ℕ) (o : Outcome) (b : Bool) → o ≡ outcome n → b ≡ is_ok_verdict o.verdict → 0 < n → n < length tree → is_ok tree outcome n ≡ (b && list_all (is_ok tree outcome) (children tree n))
  ok-by n o b same is pos h =
      ok-down n pos h ∙ ap (λ v. v && list_all (is_ok tree outcome) (children tree n)) (sym (is ∙ ap (λ (x : Outcome). is_ok_verdict x.verdict) same))

  -- and where it is known whether its children's points are ok
  pub ok-known : (n : ℕ) (o : Outcome) (b children_ok : Bool) → o ≡ outcome n → b ≡ is_ok_verdict o.verdict → children_ok ≡ list_all (is_ok tree outcome) (children tree n) → 0 < n
      → n < length tree → (b && children_ok) ≡ is_ok tree outcome n
  ok-known n o b children_ok same is below pos h = ap (λ v. b && v) below ∙ sym (ok-by n o b same is pos h)

  -- a depth that reaches past the last node is enough: the text of a node, from its children's
  abbrev pub shown : (indent : ℕ) (text : ℕ → ℕ → List ℕ) (number n : ℕ) → List ℕ
  shown indent text number n =
      subtest indent (row_at tree n) text (children tree n) ++ point indent number (is_ok tree outcome n) (row_at tree n).title (outcome n)

  shown_same : (indent number n : ℕ) (f g : ℕ → ℕ → List ℕ) → ((i c : ℕ) → IsChild tree n c → f i c ≡ g i c) → shown indent f number n ≡ shown indent g number n
  shown_same indent number n f g same =
      ap (λ (s : List ℕ). cond (is_test (row_at tree n).kind) [] (subtest_line indent (row_at tree n).title ++ (plan_line (indent + 4) (length (children tree n)) ++ s)) ++ point indent number
      (is_ok tree outcome n) (row_at tree n).title (outcome n))
      (numbered_same tree n f g same 1 (children tree n) (recursion_from_All (IsChild tree n) (children tree n) (children-are tree n t)))

  text_enough : (d e indent number n : ℕ) → n < length tree → length tree ≤ n + d → length tree ≤ n + e
      → reported_within d tree outcome indent number n ≡ reported_within e tree outcome indent number n
  text_enough zero e indent number n h k l = absurd (omega arith)
  text_enough (suc d) zero indent number n h k l = absurd (omega arith)
  text_enough (suc d) (suc e) indent number n h k l =
      shown_same indent number n (reported_within d tree outcome (indent + 4)) (reported_within e tree outcome (indent + 4))
      (λ i c is. text_enough d e (indent + 4) i c is.2 (let less = is.1 in omega arith) (let less = is.1 in omega arith))

  text_from : (d indent number n : ℕ) → 0 < n → n < length tree → length tree ≡ d → reported_within d tree outcome indent number n ≡ shown indent (reported tree outcome (indent + 4)) number n
  text_from zero indent number n pos h e = absurd (omega arith)
  text_from (suc d) indent number n pos h e =
      shown_same indent number n (reported_within d tree outcome (indent + 4)) (reported tree outcome (indent + 4))
      (λ i c is. text_enough d (length tree) (indent + 4) i c is.2 (let less = is.1 in omega arith) (omega arith))

  pub text-down : (indent number n : ℕ) → 0 < n → n < length tree → reported tree outcome indent number n ≡ shown indent (reported tree outcome (indent + 4)) number n
  text-down indent number n pos h = text_from (length tree) indent number n pos h refl
