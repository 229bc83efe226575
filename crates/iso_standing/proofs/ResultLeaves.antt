-- Results in a state that a run leads to: the end of a body under way may be put, what it leaves are the results after the Leave, and
-- finished nodes alone have results.
use Rattle.std.proofs.Common.{◌≡◌, ℕ, ◌<◌, List, length, Some, None, Bool, true, false, ◌||◌, ◌&&◌, not, cond, is_some, inl, inr, refl, sym, ap, ap₂, subst, ◌∙◌, arith}
use Rattle.std.proofs.lemmas.List.{get_or-set_same}
use Rattle.iso_standing.proofs.Inside.{not-inside}
use Rattle.iso_suites.proofs.LanguageLaws.{scripts-laws}
use Rattle.iso_standing.proofs.Leaving.{head-test}
use Rattle.iso_suites.proofs.PlanOpenings.{class-kind, class-well, kept, laws, no-test-kind, outcome-is, parent-inside, test-kind}
use Rattle.iso_standing.proofs.ResultPuts.{NodeStatus, put-barred, put-end, put-opened}
use Rattle.iso_standing.specs.ResultStates.{AreResultsOf}
use Rattle.iso_suites.specs.ScriptLanguage.{Head, scripts}
use Rattle.iso_suites.specs.SuiteStates.{RunState, IsReached, suite_at}
use Rattle.iso_standing.specs.UnderWay.{is_after_all}
use Rattle.iso_isolation.proofs.Barred.{path_on}
use Rattle.iso_isolation.proofs.Changes.{equal_or_not}
use Rattle.iso_isolation.proofs.Invariant.{Kept}
use Rattle.iso_isolation.proofs.Locks.{strictly_above}
use Rattle.iso_isolation.proofs.OpeningLeaves.{parent_well, well_now}
use Rattle.iso_isolation.proofs.Statuses.{body_held, body_shut, open_held}
use Rattle.iso_isolation.specs.Events.{barring, ended_well, frames_left, is_in, leaving, open_or_barred, opening_left}
use Rattle.iso_isolation.specs.Restoring.{finishing}
use Rattle.iso_isolation.specs.Runs.{result_of}
use Rattle.iso_isolation.specs.States as S
use Rattle.iso_isolation.specs.States.{Status, body_in, frames_in, is_closing, is_finished, is_held, is_open}
use Rattle.iso_isolation.specs.Suites.{Suite, up}
use Rattle.iso_lifecycle.specs.ResultViews.{AreOpen, CanPut, ResultsView, has_result, is_barring, is_due, is_opened, is_some_barring, outcome_in, result_in, with_done_of}
use Rattle.iso_lifecycle.specs.Subjects.{is_kind_of, own_frame, subject}
use Rattle.iso_lifecycle.specs.declared.kind.BodyKind.{BodyKind}
use Rattle.iso_lifecycle.specs.declared.kind.BodyKind.TheVariants.{BeforeAll, Test, AfterAll}
use Rattle.iso_model.specs.Bodies.{Stage, is_ended}
use Rattle.iso_model.specs.Openings.{Frame}
use Rattle.iso_model.specs.Statements.{is_well}
use Rattle.iso_model.specs.declared.outcome.Outcome.{Outcome}
use Rattle.iso_model.specs.declared.resource.Resource.{Resource}
use Rattle.iso_plan.proofs.PathLemmas.{along, path-root, path-step}
use Rattle.iso_plan.specs.Paths.{IsTree, is_test, parent, path, row_at}
use Rattle.iso_plan.specs.RowView.{tree_of}
use Rattle.iso_plan.specs.Tree.{Row}

-- what a status with a body under way tells
pub begun-is : (v : NodeStatus) (b : Stage) → body_in v ≡ Some b → is_closing v ≡ false → v ≡ S.Begun b
begun-is S.Waiting b e c = absurd (cc)
begun-is (S.Begun a) b e c = let same : a ≡ b = cc in ap S.Begun same
begun-is (S.Open fs) b e c = absurd (cc)
begun-is (S.Barred fs) b e c = absurd (cc)
begun-is (S.Closing fs a) b e c = absurd (cc)
begun-is (S.Finished r) b e c = absurd (cc)

body-unfinished : (v : NodeStatus) (b : Stage) → body_in v ≡ Some b → is_finished v ≡ false
body-unfinished S.Waiting b e = refl
body-unfinished (S.Begun a) b e = refl
body-unfinished (S.Open fs) b e = refl
body-unfinished (S.Barred fs) b e = refl
body-unfinished (S.Closing fs a) b e = refl
body-unfinished (S.Finished r) b e = absurd (cc)

closing-frames : (v : NodeStatus) (b : Stage) → body_in v ≡ Some b → is_some (frames_in v) ≡ is_closing v
closing-frames S.Waiting b e = refl
closing-frames (S.Begun a) b e = refl
closing-frames (S.Open fs) b e = absurd (cc)
closing-frames (S.Barred fs) b e = absurd (cc)
closing-frames (S.Closing fs a) b e = refl
closing-frames (S.Finished r) b e = refl

open-frames : (v : NodeStatus) → is_open v ≡ true → is_some (frames_in v) ≡ true
open-frames S.Waiting e = absurd (cc)
open-frames (S.Begun a) e = absurd (cc)
open-frames (S.Open fs) e = refl
open-frames (S.Barred fs) e = absurd (cc)
open-frames (S.Closing fs a) e = absurd (cc)
open-frames (S.Finished r) e = absurd (cc)

unheld : (v : NodeStatus) → (is_held v ≡ true → ⊥) → is_held v ≡ false
unheld S.Waiting never = refl
unheld (S.Begun a) never = absurd (never refl)
unheld (S.Open fs) never = absurd (never refl)
unheld (S.Barred fs) never = absurd (never refl)
unheld (S.Closing fs a) never = absurd (never refl)
unheld (S.Finished r) never = refl

-- a class whose `before_all` was put bars where that didn't end well
bars-as : (o w : Bool) → o ≡ true → (o && not w) ≡ not w
bars-as true w e = refl
bars-as false w e = absurd (cc)

not-not : (w : Bool) → w ≡ not (not w)
not-not true = refl
not-not false = refl

-- a node has a result where its status does
result-by : (v : NodeStatus) (o : Outcome) → ((q : Outcome) → S.result_in v ≡ Some q → q ≡ o) → cond (is_finished v) (Some o) None ≡ S.result_in v
result-by S.Waiting o known = refl
result-by (S.Begun a) o known = refl
result-by (S.Open fs) o known = refl
result-by (S.Barred fs) o known = refl
result-by (S.Closing fs a) o known = refl
result-by (S.Finished q) o known = ap Some (sym (known q refl))

module _ (r : ResultsView) (t : IsTree (tree_of r.plan)) (s : RunState) (reached : IsReached r.plan r.start s) (are : AreResultsOf r s.nodes) where
  abbrev tree : List Row
  tree = tree_of r.plan

  abbrev x : Suite Head (List ℕ) Resource
  x = suite_at r.plan r.start

  abbrev at : ℕ → NodeStatus
  at = s.nodes.status

  keeps : Kept scripts x s.nodes
  keeps = kept r.plan r.start t s reached

  count : length tree ≡ length r.plan.rows
  count = refl

  nonzero : (n : ℕ) → 0 < n → n ≡ 0 → ⊥
  nonzero n pos e = absurd (omega arith)

  -- the classes at and above an open one were opened well
  open-above : (j : ℕ) → j < length tree → is_test (row_at tree j).kind ≡ false → is_open (at j) ≡ true → AreOpen r (path tree j)
  open-above = along tree t.below (λ j. j < length tree → is_test (row_at tree j).kind ≡ false → is_open (at j) ≡ true → AreOpen r (path tree j))
      (λ inside class opens. subst (λ (ns : List ℕ). AreOpen r ns) (sym (path-root tree)) tt)
      (λ j pos above inside class opens.
      let around = keeps.locked.tree j (nonzero j pos) (open_held (at j) opens) in
      let fits = class-kind (row_at tree j).kind class (t.full j pos inside) in
      let well : is_well (own_frame (subject r.plan r.start j)).ending ≡ true = sym (class-well r.plan r.start t j pos inside fits (keeps.well (parent tree j) around)) ∙ keeps.well j opens in
      let outer = above (parent-inside r.plan r.start t j pos inside) (t.inner j pos) around in
      subst (λ (ns : List ℕ). AreOpen r ns) (sym (path-step tree t.below j pos)) ((are.opened j pos (open-frames (at j) opens), well), outer))

  -- the root has no result, and any other node that of itself run alone
  root-result : has_result r 0 ≡ false
  root-result =
      ap₂ (λ (e b : Bool). e || b) (are.unended 0 (ap is_finished keeps.locked.root))
      (ap (λ (p : ℕ). is_some_barring r (path tree p)) (ap (λ (row : Row). row.parent) t.root_is) ∙ ap (is_some_barring r) (path-root tree))

  pub result-is : (n : ℕ) → n < length r.plan.rows → result_in r n ≡ result_of s n
  result-is n inside = elim (equal_or_not n 0) [
    | inl zeroth ↦
        subst (λ (j : ℕ). result_in r j ≡ result_of s j) (sym zeroth)
        (ap (λ (h : Bool). cond h (Some (outcome_in r 0)) None) root-result ∙ sym (ap S.result_in keeps.locked.root))
    | inr other ↦
        let pos : 0 < n = omega (arith, other) in
        ap (λ (h : Bool). cond h (Some (outcome_in r n)) None) (are.finished n pos inside)
        ∙ result-by (at n) (outcome_in r n) (λ q e. keeps.done n q other e ∙ outcome-is r.plan r.start t n pos (omega (arith, count)))
  ]

  module _ (n : ℕ) (pos : 0 < n) (inside : n < length r.plan.rows) (b : Stage) (here : body_in (at n) ≡ Some b) where
    within : n < length tree
    within = omega (arith, count)

    due : (kind : BodyKind) → is_after_all kind ≡ is_closing (at n) → is_due kind n r ≡ true
    due BeforeAll e = ap not (are.unopened n (closing-frames (at n) b here ∙ sym e) (body-unfinished (at n) b here))
    due Test e = ap not (are.unended n (body-unfinished (at n) b here))
    due AfterAll e = ap₂ (λ (o u : Bool). o && not u) (are.opened n pos (closing-frames (at n) b here ∙ sym e)) (are.unended n (body-unfinished (at n) b here))

    pub can-put : (kind : BodyKind) → is_after_all kind ≡ is_closing (at n) → CanPut (record { subject = subject r.plan r.start n; kind = kind }) r
    can-put kind e = record {
      plan = refl;
      start = refl;
      node = inside;
      due = due kind e;
      enclosed = open-above (parent tree n) (parent-inside r.plan r.start t n pos within) (t.inner n pos) (keeps.locked.tree n (nonzero n pos) (body_held (at n) b here));
    }

    -- the end of a `before_all` that is left
    module _ (begun : at n ≡ S.Begun b) (over : is_ended b ≡ true) (class : is_kind_of BeforeAll (row_at tree n).kind ≡ true) where
      abbrev after : ResultsView
      after = with_done_of BeforeAll n r

      opened-here : is_opened after n ≡ true
      opened-here = let fit = are.opened_fit in get_or-set_same r.opened n true false (omega arith)

      frame-well : ended_well scripts x n b s.nodes ≡ is_well (own_frame (subject r.plan r.start n)).ending
      frame-well =
          sym (well_now scripts x (laws r.plan r.start t) scripts-laws s.nodes keeps n b begun over)
          ∙ class-well r.plan r.start t n pos within class (parent_well scripts x (laws r.plan r.start t) scripts-laws s.nodes keeps n b begun over)

      pub bars-ill : is_barring after n ≡ not (ended_well scripts x n b s.nodes)
      bars-ill = bars-as (is_opened after n) (is_well (own_frame (subject r.plan r.start n)).ending) opened-here ∙ ap not (sym frame-well)

      pub ends-well : ended_well scripts x n b s.nodes ≡ not (is_barring after n)
      ends-well = not-not (ended_well scripts x n b s.nodes) ∙ ap not (sym bars-ill)

      -- no entered node stands in it
      empty : (m : ℕ) → is_in n (path tree (parent tree m)) ≡ true → is_held (at m) ≡ false
      empty m e = unheld (at m) (λ held.
          elim (equal_or_not m 0) [
            | inl zeroth ↦
                let none : is_in n (path tree (parent tree m)) ≡ false = ap (λ (j : ℕ). is_in n (path tree (parent tree j))) zeroth
                ∙ ap (λ (row : Row). is_in n (path tree row.parent)) t.root_is ∙ ap (is_in n) (path-root tree) in
                cc
            | inr other ↦
                let less = t.below m (omega (arith, other)) in
                let above = path_on scripts x (laws r.plan r.start t) scripts-laws n (parent tree m) e in
                let apart : n ≡ m → ⊥ = λ same. let wrong : true ≡ false = sym e ∙ not-inside tree t.below (parent tree m) n (omega (arith, same)) in cc in
                let opens = strictly_above scripts x (laws r.plan r.start t) scripts-laws at keeps.locked (up other above) apart held in
                let shut = body_shut (at n) b here in
                cc
          ])

      opening-left : (w : Bool) → ended_well scripts x n b s.nodes ≡ w
          → AreResultsOf after (cond w (opening_left scripts x n b s.nodes) (barring scripts x n (frames_left scripts x n b s.nodes) (opening_left scripts x n b s.nodes)))
      opening-left true w =
          subst (λ (v : Bool). AreResultsOf after (record { flat = s.nodes.flat; status = S.put n (open_or_barred v (frames_left scripts x n b s.nodes)) at; saved = s.nodes.saved })) (sym w)
          (put-opened r s.nodes n s.nodes.flat s.nodes.saved are inside (closing-frames (at n) b here ∙ ap is_closing begun) (body-unfinished (at n) b here)
          (S.Open (frames_left scripts x n b s.nodes)) refl refl (bars-ill ∙ ap not w))
      opening-left false w =
          subst (λ (v : Bool). AreResultsOf after (barring scripts x n (frames_left scripts x n b s.nodes)
          (record { flat = s.nodes.flat; status = S.put n (open_or_barred v (frames_left scripts x n b s.nodes)) at; saved = s.nodes.saved }))) (sym w)
          (put-barred r s.nodes n s.nodes.flat s.nodes.saved are inside (closing-frames (at n) b here ∙ ap is_closing begun) (body-unfinished (at n) b here)
          (S.Barred (frames_left scripts x n b s.nodes)) refl refl
          (scripts.blocked (frames_left scripts x n b s.nodes)) (bars-ill ∙ ap not w) (not-inside tree t.below (parent tree n) n (t.below n pos)) empty)

    abbrev Follows : BodyKind → NodeStatus → Type 0
    Follows kind v = AreResultsOf (with_done_of kind n r) (leaving scripts x n s.nodes v)

    begun-left : (kind : BodyKind) → at n ≡ S.Begun b → is_after_all kind ≡ false → is_kind_of kind (row_at tree n).kind ≡ true → is_ended b ≡ true → Follows kind (S.Begun b)
    begun-left AfterAll begun first fits over = absurd (cc)
    begun-left Test begun first fits over =
        let test : scripts.is_test (x.head n) ≡ true = head-test (row_at tree n).kind ∙ test-kind (row_at tree n).kind fits in
        subst (λ (t : Bool). AreResultsOf (with_done_of Test n r) (cond t (finishing scripts x n (scripts.test_result b) s.nodes)
        (cond (ended_well scripts x n b s.nodes) (opening_left scripts x n b s.nodes) (barring scripts x n (frames_left scripts x n b s.nodes) (opening_left scripts x n b s.nodes))))) (sym test)
        (put-end r s.nodes n (scripts.test_result b) _ _ are inside)
    begun-left BeforeAll begun first fits over =
        let class : scripts.is_test (x.head n) ≡ false = head-test (row_at tree n).kind ∙ no-test-kind (row_at tree n).kind fits in
        subst (λ (t : Bool). AreResultsOf (with_done_of BeforeAll n r) (cond t (finishing scripts x n (scripts.test_result b) s.nodes)
        (cond (ended_well scripts x n b s.nodes) (opening_left scripts x n b s.nodes) (barring scripts x n (frames_left scripts x n b s.nodes) (opening_left scripts x n b s.nodes))))) (sym class)
        (opening-left begun over fits (ended_well scripts x n b s.nodes) refl)

    closing-left : (kind : BodyKind) (fs : List Frame) → is_after_all kind ≡ true → Follows kind (S.Closing fs b)
    closing-left BeforeAll fs last = absurd (cc)
    closing-left Test fs last = absurd (cc)
    closing-left AfterAll fs last = put-end r s.nodes n (scripts.class_result fs b) _ _ are inside

    left-by : (kind : BodyKind) (v : NodeStatus) → at n ≡ v → body_in v ≡ Some b → is_after_all kind ≡ is_closing v → is_kind_of kind (row_at tree n).kind ≡ true → is_ended b ≡ true → Follows kind v
    left-by kind S.Waiting now e last fits over = absurd (cc)
    left-by kind (S.Begun c) now e last fits over =
        let same : c ≡ b = cc in
        subst (λ (a : Stage). Follows kind (S.Begun a)) (sym same) (begun-left kind (now ∙ ap S.Begun same) last fits over)
    left-by kind (S.Open fs) now e last fits over = absurd (cc)
    left-by kind (S.Barred fs) now e last fits over = absurd (cc)
    left-by kind (S.Closing fs c) now e last fits over =
        let same : c ≡ b = cc in
        subst (λ (a : Stage). Follows kind (S.Closing fs a)) (sym same) (closing-left kind fs last)
    left-by kind (S.Finished q) now e last fits over = absurd (cc)

    pub left : (kind : BodyKind) → is_after_all kind ≡ is_closing (at n) → is_kind_of kind (row_at tree n).kind ≡ true → is_ended b ≡ true
        → AreResultsOf (with_done_of kind n r) (leaving scripts x n s.nodes (at n))
    left kind last fits over = left-by kind (at n) refl here last fits over
