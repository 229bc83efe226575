-- A report is ok just where nothing failed: what is blocked stands in a class that failed.
use Rattle.std.proofs.Common.{◌≡◌, ◌<◌, ℕ, zero, suc, ◌+◌, List, [], ◌∷◌, ◌++◌, length, get_or, Option, Some, None, Bool, true, false, ◌&&◌, cond, ◌⊎◌, inl, inr, refl, sym, ap, subst, ◌∙◌, arith, true≢false}
use Rattle.std.specs.List.{filter, find, list_all, range_with_len}
use Rattle.std.specs.Prelude.{unwrap_or}
use Rattle.iso_model.proofs.ChainRuns.{class_from-restricted, test_from-restricted}
use Rattle.iso_model.specs.Alone.{after_all, barred, class_alone, class_outcome, test_alone, test_outcome}
use Rattle.iso_model.specs.Chains.{ClassHead, TestHead}
use Rattle.iso_model.specs.Openings.{Frame, Opening, before_all, opened, opening}
use Rattle.iso_model.specs.Resources.{Resources}
use Rattle.iso_model.specs.Statements.{State}
use Rattle.iso_model.specs.Tests.{test}
use Rattle.iso_model.specs.Verdicts.{barred_verdict, first_failure, first_skip, verdict}
use Rattle.iso_model.specs.declared.outcome.Ending.{Ending}
use Rattle.iso_model.specs.declared.outcome.Ending.TheVariants as E
use Rattle.iso_model.specs.declared.outcome.Outcome.{Outcome}
use Rattle.iso_model.specs.declared.outcome.Verdict.{Verdict}
use Rattle.iso_model.specs.declared.outcome.Verdict.TheVariants as V
use Rattle.iso_lifecycle.specs.Subjects.{chain_alone, first_frame, outcome_alone}
use Rattle.iso_plan.proofs.ChildLemmas.{listed}
use Rattle.iso_plan.proofs.NumberLemmas.{those-at, those-skip}
use Rattle.iso_plan.proofs.PathLemmas.{along, chain-step, path-root, path-step}
use Rattle.iso_plan.specs.Children.{IsListed}
use Rattle.iso_plan.specs.NodeChains.{chain_classes, class_heads, heads_on, own_test}
use Rattle.iso_plan.specs.Paths.{IsTree, children, is_class_or_test, is_under, parent, path, row_at}
use Rattle.iso_plan.specs.KeptNodes.{number_among, those_below}
use Rattle.iso_plan.specs.Tree.{Kind, root, class_node, test_node, Row}
use Rattle.iso_tap.proofs.ReportLemmas.{ok-down}
use Rattle.iso_tap.specs.ReportLines.{is_ok_verdict}
use Rattle.iso_tap.specs.Reports.{all_ok, is_ok}
use Rattle.iso_failures.specs.Blocking.{nearest_failure}
use Rattle.iso_failures.specs.Failures.{failures, is_failure}
use Rattle.iso_failures.specs.Nodes.{has_failed, was_blocked}
use Rattle.iso_failures.proofs.Sums.{numbers}

both_true : (a b : Bool) → (a && b) ≡ true → (a ≡ true) × (b ≡ true)
both_true true b h = (refl, h)
both_true false b h = absurd (true≢false (sym h))

not_true : (b : Bool) → (b ≡ true → ⊥) → b ≡ false
not_true true h = absurd (h refl)
not_true false h = refl

all_at : (p : ℕ → Bool) (ns : List ℕ) (i : ℕ) → list_all p ns ≡ true → i < length ns → p (get_or ns i 0) ≡ true
all_at p [] i h less = absurd (omega arith)
all_at p (n ∷ ns) zero h less = (both_true (p n) _ h).0
all_at p (n ∷ ns) (suc i) h less = all_at p ns i (both_true (p n) _ h).1 (omega arith)

all_listed : (p : ℕ → Bool) (ns : List ℕ) (n : ℕ) → list_all p ns ≡ true → IsListed ns n → p n ≡ true
all_listed p ns n h is = ap p (sym is.is) ∙ all_at p ns is.place h is.within

all_by : (p : ℕ → Bool) (ns : List ℕ) → ((n : ℕ) → p n ≡ true) → list_all p ns ≡ true
all_by p [] h = refl
all_by p (n ∷ ns) h = rw (h n) (all_by p ns h)

kept_by : (p : ℕ → Bool) (a : ℕ) (ns : List ℕ) (t : Bool) → p a ≡ true → list_all p ns ≡ true → list_all p (cond t (a ∷ ns) ns) ≡ true
kept_by p a ns true here rest = rw here rest
kept_by p a ns false here rest = rest

all_within : (p q : ℕ → Bool) (n a : ℕ) → ((m : ℕ) → m < a + n → p m ≡ true) → list_all p (filter q (range_with_len a n)) ≡ true
all_within p q zero a h = refl
all_within p q (suc n) a h =
    kept_by p a (filter q (range_with_len (a + 1) n)) (q a) (h a (omega arith)) (all_within p q n (a + 1) (λ m less. h m (omega arith)))

none_below : (p : ℕ → Bool) (n : ℕ) → ((m : ℕ) → m < n → p m ≡ false) → those_below p n ≡ []
none_below p zero h = refl
none_below p (suc n) h = those-skip p n (h n (omega arith)) ∙ none_below p n (λ m less. h m (omega arith))

empty_at : (xs : List ℕ) (i n : ℕ) → xs ≡ [] → ((d : ℕ) → get_or xs i d ≡ n) → ⊥
empty_at xs i n e h = let past : suc n ≡ n = sym (ap (λ (ys : List ℕ). get_or ys i (suc n)) e) ∙ h (suc n) in absurd (omega arith)

-- where none is found below a number, none passes
none_passes : (p : ℕ → Bool) (n m : ℕ) → those_below p n ≡ [] → m < n → p m ≡ false
none_passes p n m e less = not_true (p m) (λ yes. empty_at (those_below p n) (number_among p m) m e (λ d. those-at p n m d less yes))

-- no body that ran ends blocked: it is ok where it isn't a fail or a fault
skip_or_pass : (es : List Ending) → is_ok_verdict (unwrap_or (first_skip es) V.Pass) ≡ true
skip_or_pass [] = refl
skip_or_pass (E.Assumed note ∷ es) = refl
skip_or_pass (E.Fail note ∷ es) = skip_or_pass es
skip_or_pass (E.Fault kind note ∷ es) = skip_or_pass es
skip_or_pass (E.Well ∷ es) = skip_or_pass es

failed_or : (es : List Ending) (v : Verdict) → is_ok_verdict v ≡ true → has_failed (unwrap_or (first_failure es) v) ≡ false → is_ok_verdict (unwrap_or (first_failure es) v) ≡ true
failed_or [] v is h = is
failed_or (E.Assumed note ∷ es) v is h = failed_or es v is h
failed_or (E.Fail note ∷ es) v is h = absurd (true≢false h)
failed_or (E.Fault kind note ∷ es) v is h = absurd (true≢false h)
failed_or (E.Well ∷ es) v is h = failed_or es v is h

verdict_ok : (es : List Ending) → has_failed (verdict es) ≡ false → is_ok_verdict (verdict es) ≡ true
verdict_ok es h = failed_or es (unwrap_or (first_skip es) V.Pass) (skip_or_pass es) h

ok_unfailed : (v : Verdict) → is_ok_verdict v ≡ true → has_failed v ≡ false
ok_unfailed V.Pass h = refl
ok_unfailed (V.Fail note) h = absurd (true≢false (sym h))
ok_unfailed (V.Fault kind note) h = absurd (true≢false (sym h))
ok_unfailed (V.Skipped note) h = refl
ok_unfailed (V.Blocked note) h = refl

-- what stands in a class whose `before_all` ended so is not blocked
abbrev IsUnblocking : Ending → Type 0
IsUnblocking e = is_ok_verdict (barred_verdict e) ≡ true

-- an opening was well, or it was left by a false assumption
abbrev Fine : Opening → Type 0
Fine o = (o.well ≡ true) ⊎ (IsUnblocking (first_frame o.frames).ending)

fine_ending : (e f : Ending) → has_failed (verdict (e ∷ f ∷ [])) ≡ false → IsUnblocking e
fine_ending E.Well f h = refl
fine_ending (E.Assumed note) f h = refl
fine_ending (E.Fail note) f h = absurd (true≢false h)
fine_ending (E.Fault kind note) f h = absurd (true≢false h)

-- a class that didn't fail leaves such an opening
fine_by : (o : Opening) (s after : State) (b : Bool) → Fine o → has_failed (cond b (class_outcome (opened o s).frames after) (barred o.frames)).verdict ≡ false → Fine (cond b (opened o s) o)
fine_by o s after true is h = inr (fine_ending s.here.ending after.here.ending h)
fine_by o s after false is h = is

fine_class : (c : ClassHead) (cs : List ClassHead) (m : Resources) → Fine (opening cs m) → has_failed (class_alone c cs m).verdict ≡ false → Fine (opening (c ∷ cs) m)
fine_class c cs m is h =
    let o = opening cs m in
    let s = before_all c cs o in
    fine_by o s (after_all c cs (opened o s)) o.well is (ap (λ (x : Outcome). has_failed x.verdict) (class_from-restricted c cs m) ∙ h)

fine_node : (k : Kind) (cs : List ClassHead) (m : Resources) → Fine (opening cs m)
    → has_failed (chain_alone (own_test k) (class_heads k ++ cs) m).verdict ≡ false → Fine (opening (class_heads k ++ cs) m)
fine_node root cs m is h = is
fine_node (class_node i c) cs m is h = fine_class c cs m is h
fine_node (test_node t) cs m is h = is

-- in such a class a node that didn't fail is ok
ok_by : (whole ill : Outcome) (b : Bool) → (has_failed whole.verdict ≡ false → is_ok_verdict whole.verdict ≡ true) → (b ≡ false → is_ok_verdict ill.verdict ≡ true)
    → has_failed (cond b whole ill).verdict ≡ false → is_ok_verdict (cond b whole ill).verdict ≡ true
ok_by whole ill true f g h = f h
ok_by whole ill false f g h = g refl

barred_ok : (fs : List Frame) → IsUnblocking (first_frame fs).ending → is_ok_verdict (barred fs).verdict ≡ true
barred_ok [] h = refl
barred_ok (f ∷ fs) h = h

ill_ok : (o : Opening) → Fine o → o.well ≡ false → is_ok_verdict (barred o.frames).verdict ≡ true
ill_ok o (inl well) ill = absurd (true≢false (sym well ∙ ill))
ill_ok o (inr fine) ill = barred_ok o.frames fine

abbrev failed : Outcome → Bool
failed o = has_failed o.verdict

abbrev ok : Outcome → Bool
ok o = is_ok_verdict o.verdict

ok_class : (c : ClassHead) (cs : List ClassHead) (m : Resources) → Fine (opening cs m) → failed (class_alone c cs m) ≡ false → ok (class_alone c cs m) ≡ true
ok_class c cs m is h =
    let o = opening cs m in
    let p = opened o (before_all c cs o) in
    let after = after_all c cs p in
    sym (ap ok (class_from-restricted c cs m))
    ∙ ok_by (class_outcome p.frames after) (barred o.frames) o.well
    (verdict_ok ((before_all c cs o).here.ending ∷ after.here.ending ∷ []))
    (ill_ok o is) (ap failed (class_from-restricted c cs m) ∙ h)

ok_test : (t : TestHead) (cs : List ClassHead) (m : Resources) → Fine (opening cs m) → failed (test_alone t cs m) ≡ false → ok (test_alone t cs m) ≡ true
ok_test t cs m is h =
    let o = opening cs m in
    sym (ap ok (test_from-restricted t cs m))
    ∙ ok_by (test_outcome (test t cs o)) (barred o.frames) o.well (verdict_ok (test t cs o).endings) (ill_ok o is) (ap failed (test_from-restricted t cs m) ∙ h)

ok_node : (k : Kind) (cs : List ClassHead) (m : Resources) → is_class_or_test k ≡ true → Fine (opening cs m) → failed (chain_alone (own_test k) (class_heads k ++ cs) m) ≡ false
    → ok (chain_alone (own_test k) (class_heads k ++ cs) m) ≡ true
ok_node root cs m k is h = absurd (true≢false (sym k))
ok_node (class_node i c) cs m k is h = ok_class c cs m is h
ok_node (test_node t) cs m k is h = ok_test t cs m is h

-- the first failure of a path
abbrev nearest_in : (ℕ → Outcome) → List ℕ → Option ℕ
nearest_in outcome ns = find (is_failure outcome) ns

none_first : (b : Bool) (n : ℕ) (more : Option ℕ) → cond b (Some n) more ≡ None → (b ≡ false) × (more ≡ None)
none_first true n more h = absurd (cc)
none_first false n more h = (refl, h)

abbrev blocked_outcome : Outcome → Bool
blocked_outcome o = was_blocked o.verdict

blocked_not_ok : (v : Verdict) → is_ok_verdict v ≡ true → was_blocked v ≡ false
blocked_not_ok V.Pass h = refl
blocked_not_ok (V.Fail note) h = refl
blocked_not_ok (V.Fault kind note) h = refl
blocked_not_ok (V.Skipped note) h = refl
blocked_not_ok (V.Blocked note) h = absurd (true≢false (sym h))

blocked_not_failed : (v : Verdict) → was_blocked v ≡ true → has_failed v ≡ false
blocked_not_failed V.Pass h = refl
blocked_not_failed (V.Fail note) h = absurd (true≢false (sym h))
blocked_not_failed (V.Fault kind note) h = absurd (true≢false (sym h))
blocked_not_failed (V.Skipped note) h = refl
blocked_not_failed (V.Blocked note) h = refl

module _ (tree : List Row) (t : IsTree tree) where
  -- where the report is ok, so is the point of each node
  module _ (outcome : ℕ → Outcome) where
    ok_at : all_ok tree outcome ≡ true → (n : ℕ) → 0 < n → n < length tree → is_ok tree outcome n ≡ true
    ok_at h =
        along tree t.below (λ n. 0 < n → n < length tree → is_ok tree outcome n ≡ true)
        (λ pos. absurd (omega arith))
        (λ n pos ih _ less.
        let child = listed tree n pos less in
        let below = t.below n pos in
        elim (numbers (parent tree n) 0) [
          | inl top ↦ all_listed (is_ok tree outcome) (children tree 0) n h (subst (λ (j : ℕ). IsListed (children tree j) n) top child)
          | inr inner ↦
              let above = ih (omega arith) (omega arith) in
              all_listed (is_ok tree outcome) (children tree (parent tree n)) n
              (both_true (is_ok_verdict (outcome (parent tree n)).verdict) _ (sym (ok-down tree outcome t (parent tree n) (omega arith) (omega arith)) ∙ above)).1
              child
        ])

    unfailed_at : all_ok tree outcome ≡ true → (n : ℕ) → 0 < n → n < length tree → failed (outcome n) ≡ false
    unfailed_at h n pos less =
        ok_unfailed (outcome n).verdict
        (both_true (is_ok_verdict (outcome n).verdict) _ (sym (ok-down tree outcome t n pos less) ∙ ok_at h n pos less)).0

    no_failure : (n : ℕ) → (0 < n → failed (outcome n) ≡ false) → is_failure outcome n ≡ false
    no_failure zero h = refl
    no_failure (suc n) h = h (omega arith)

    pub ok-unfailed : all_ok tree outcome ≡ true → failures tree outcome ≡ []
    ok-unfailed h = none_below (is_failure outcome) (length tree) (λ n less. no_failure n (λ pos. unfailed_at h n pos less))

    ok_each : ((n : ℕ) → n < length tree → ok (outcome n) ≡ true) → all_ok tree outcome ≡ true
    ok_each h =
        all_by (is_ok tree outcome) (children tree 0)
        (λ n. all_within (λ m. is_ok_verdict (outcome m).verdict) (is_under tree n) (length tree) 0 (λ m less. h m (omega arith)))

    failure_not : (n : ℕ) → 0 < n → is_failure outcome n ≡ false → failed (outcome n) ≡ false
    failure_not zero pos h = absurd (omega arith)
    failure_not (suc n) pos h = h

  -- in classes none of which failed no node is blocked
  module _ (m : Resources) where
    abbrev alone : ℕ → Outcome
    alone n = outcome_alone tree m n

    chain_failed : (n : ℕ) → 0 < n → failed (alone n) ≡ false → failed (chain_alone (own_test (row_at tree n).kind) (class_heads (row_at tree n).kind ++ chain_classes tree (parent tree n)) m) ≡ false
    chain_failed n pos h = ap (λ (cs : List ClassHead). failed (chain_alone (own_test (row_at tree n).kind) cs m)) (sym (chain-step tree t.below n pos)) ∙ h

    fine : (n : ℕ) → nearest_in alone (path tree n) ≡ None → Fine (opening (chain_classes tree n) m)
    fine =
        along tree t.below (λ n. nearest_in alone (path tree n) ≡ None → Fine (opening (chain_classes tree n) m))
        (λ h. inl (ap (λ (ns : List ℕ). (opening (heads_on tree ns) m).well) (path-root tree)))
        (λ n pos ih h.
        let none = none_first (is_failure alone n) n (nearest_in alone (path tree (parent tree n))) (sym (ap (nearest_in alone) (path-step tree t.below n pos)) ∙ h) in
        subst (λ (cs : List ClassHead). Fine (opening cs m)) (sym (chain-step tree t.below n pos))
        (fine_node (row_at tree n).kind (chain_classes tree (parent tree n)) m (ih none.1) (chain_failed n pos (failure_not alone n pos none.0))))

    ok_inner : (n : ℕ) → 0 < n → n < length tree → failed (alone n) ≡ false → nearest_failure tree alone n ≡ None → ok (alone n) ≡ true
    ok_inner n pos less h none =
        let kind = (row_at tree n).kind in
        ap (λ (cs : List ClassHead). ok (chain_alone (own_test kind) cs m)) (chain-step tree t.below n pos)
        ∙ ok_node kind (chain_classes tree (parent tree n)) m (t.full n pos less) (fine (parent tree n) none) (chain_failed n pos h)

    ok_root : ok (alone 0) ≡ true
    ok_root =
        ap (λ (r : Row). ok (chain_alone (own_test r.kind) (chain_classes tree 0) m)) t.root_is
        ∙ ap (λ (ns : List ℕ). ok (chain_alone None (heads_on tree ns) m)) (path-root tree)

    -- where nothing failed, nothing around a node did
    none_around : ((n : ℕ) → n < length tree → is_failure alone n ≡ false) → (n : ℕ) → n < length tree → nearest_in alone (path tree n) ≡ None
    none_around h =
        along tree t.below (λ n. n < length tree → nearest_in alone (path tree n) ≡ None)
        (λ less. ap (nearest_in alone) (path-root tree))
        (λ n pos ih less.
        let below = t.below n pos in
        ap (nearest_in alone) (path-step tree t.below n pos)
        ∙ ap (λ (b : Bool). cond b (Some n) (nearest_in alone (path tree (parent tree n)))) (h n less) ∙ ih (omega arith))

    ok_any : ((n : ℕ) → n < length tree → is_failure alone n ≡ false) → (n : ℕ) → n < length tree → ok (alone n) ≡ true
    ok_any h zero less = ok_root
    ok_any h (suc n) less =
        let pos : 0 < suc n = omega arith in
        let below = t.below (suc n) pos in
        ok_inner (suc n) pos less (failure_not alone (suc n) pos (h (suc n) less)) (none_around h (parent tree (suc n)) (omega arith))

    pub unfailed-ok : failures tree alone ≡ [] → all_ok tree alone ≡ true
    unfailed-ok h = ok_each alone (ok_any (λ n less. none_passes (is_failure alone) (length tree) n h less))

    root_ok : (n : ℕ) → blocked_outcome (alone n) ≡ true → 0 < n
    root_ok zero h = absurd (true≢false (sym h ∙ blocked_not_ok (alone 0).verdict ok_root))
    root_ok (suc n) h = omega arith

    -- a blocked node stands in a failure
    pub blocked-in : (n : ℕ) → n < length tree → blocked_outcome (alone n) ≡ true → nearest_failure tree alone n ≡ None → ⊥
    blocked-in n less h none =
        true≢false (sym h ∙ blocked_not_ok (alone n).verdict (ok_inner n (root_ok n h) less (blocked_not_failed (alone n).verdict h) none))
