-- The state after the Leave of an ended body: which nodes are held there, and how many events may still come.
use Rattle.std.proofs.Common.{◌≡◌, ◌≢◌, ◌⊎◌, ℕ, ◌<◌, ◌≤◌, List, Some, Bool, true, false, cond, ◌&&◌, inl, inr, refl, sym, ap, ◌∙◌, subst, arith}
use Rattle.iso_book.specs.Books.{weight}
use Rattle.iso_book.specs.Progress.{is_under_way}
use Rattle.iso_isolation.proofs.Changes.{put_elsewhere, put_here, unmoved}
use Rattle.iso_isolation.specs.Events.{barring, ended_well, frames_left, leaving, open_or_barred, opening_left, stands_in}
use Rattle.iso_isolation.specs.Restoring.{finishing}
use Rattle.iso_isolation.specs.States.{Status, Waiting, Begun, Open, Barred, Closing, Finished, body_in, is_at_rest, is_closing, is_finished, is_held, is_waiting}
use Rattle.iso_isolation.specs.Suites.{Suite}
use Rattle.iso_lifecycle.specs.Subjects.{is_kind_of}
use Rattle.iso_lifecycle.specs.declared.kind.BodyKind.{BodyKind}
use Rattle.iso_lifecycle.specs.declared.kind.BodyKind.TheVariants as K
use Rattle.iso_model.specs.Bodies.{Stage}
use Rattle.iso_model.specs.Openings.{Frame}
use Rattle.iso_model.specs.declared.outcome.Outcome.{Outcome}
use Rattle.iso_model.specs.declared.resource.Resource.{Resource}
use Rattle.iso_plan.specs.Paths.{row_at}
use Rattle.iso_plan.specs.Planned.{Planned}
use Rattle.iso_plan.specs.RowView.{tree_of}
use Rattle.iso_plan.specs.Tree.{Kind, root, class_node, test_node}
use Rattle.iso_settings.specs.Worlds.{Start}
use Rattle.iso_standing.specs.Phases.{phase_of}
use Rattle.iso_standing.specs.declared.phase.Phase.TheVariants as P
use Rattle.iso_standing.specs.UnderWay.{is_after_all}
use Rattle.iso_suites.specs.PlanSuites.{head_of}
use Rattle.iso_suites.specs.ScriptLanguage.{Head, is_of_test, scripts}
use Rattle.iso_suites.specs.SuiteStates.{RunNodes, suite_at}

abbrev pub NodeStatus : Type 0
NodeStatus = Status Stage Frame Outcome

test-kind : (kind : BodyKind) (k : Kind) → is_kind_of kind k ≡ true → is_after_all kind ≡ false → (kind ≡ K.BeforeAll → ⊥) → is_of_test (head_of k) ≡ true
test-kind K.BeforeAll k fits first last = absurd (last refl)
test-kind K.Test root fits first last = absurd cc
test-kind K.Test (class_node isolated head) fits first last = absurd cc
test-kind K.Test (test_node head) fits first last = refl
test-kind K.AfterAll k fits first last = absurd cc

class-kind : (k : Kind) → is_kind_of K.BeforeAll k ≡ true → is_of_test (head_of k) ≡ false
class-kind root fits = absurd cc
class-kind (class_node isolated head) fits = refl
class-kind (test_node head) fits = absurd cc

open-held : (t : Bool) (fs : List Frame) → is_held {B = Stage} {F = Frame} {R = Outcome} (open_or_barred t fs) ≡ true
open-held true fs = refl
open-held false fs = refl

open-weight : (t : Bool) (fs : List Frame) → weight (phase_of {B = Stage} {F = Frame} {R = Outcome} (open_or_barred t fs)) ≡ 2
open-weight true fs = refl
open-weight false fs = refl

finished-held : (i : Bool) (st : NodeStatus) (r : Outcome) → is_held (cond (i && is_waiting st) (Finished r) st) ≡ is_held st
finished-held true Waiting r = refl
finished-held true (Begun b) r = refl
finished-held true (Open fs) r = refl
finished-held true (Barred fs) r = refl
finished-held true (Closing fs b) r = refl
finished-held true (Finished q) r = refl
finished-held false st r = refl

finished-weight : (i : Bool) (st : NodeStatus) (r : Outcome) → weight (phase_of (cond (i && is_waiting st) (Finished r) st)) ≤ weight (phase_of st)
finished-weight true Waiting r = omega arith
finished-weight true (Begun b) r = omega arith
finished-weight true (Open fs) r = omega arith
finished-weight true (Barred fs) r = omega arith
finished-weight true (Closing fs b) r = omega arith
finished-weight true (Finished q) r = omega arith
finished-weight false st r = omega arith

-- a body under way: its node may have a further event, and more than a class at rest where it is the first
pub body-weight : (st : NodeStatus) (b : Stage) → body_in st ≡ Some b → 0 < weight (phase_of st)
body-weight Waiting b e = absurd cc
body-weight (Begun c) b e = omega arith
body-weight (Open fs) b e = absurd cc
body-weight (Barred fs) b e = absurd cc
body-weight (Closing fs c) b e = omega arith
body-weight (Finished r) b e = absurd cc

pub begun-weight : (st : NodeStatus) (b : Stage) → body_in st ≡ Some b → is_closing st ≡ false → weight (phase_of st) ≡ 3
begun-weight Waiting b e open_yet = absurd cc
begun-weight (Begun c) b e open_yet = refl
begun-weight (Open fs) b e open_yet = absurd cc
begun-weight (Barred fs) b e open_yet = absurd cc
begun-weight (Closing fs c) b e open_yet = absurd cc
begun-weight (Finished r) b e open_yet = absurd cc

-- a `before_all` is the body of what is no test
pub first-kind : (kind : BodyKind) (k : Kind) → is_kind_of kind k ≡ true → is_after_all kind ≡ false → is_of_test (head_of k) ≡ false → kind ≡ K.BeforeAll
first-kind K.BeforeAll k fits first class = refl
first-kind K.Test root fits first class = absurd cc
first-kind K.Test (class_node isolated head) fits first class = absurd cc
first-kind K.Test (test_node head) fits first class = absurd cc
first-kind K.AfterAll k fits first class = absurd cc

open-rests : (t : Bool) (fs : List Frame) → is_at_rest {B = Stage} {F = Frame} {R = Outcome} (open_or_barred t fs) ≡ true
open-rests true fs = refl
open-rests false fs = refl

-- a class whose `before_all` didn't end well is barred
barred-phase : (t : Bool) (fs : List Frame) → t ≡ false → phase_of {B = Stage} {F = Frame} {R = Outcome} (open_or_barred t fs) ≡ P.Barred
barred-phase true fs e = absurd cc
barred-phase false fs e = refl

-- what waits when a class is barred is finished where it stands in the class
finished-waiting : (i : Bool) (st : NodeStatus) (r : Outcome) → phase_of st ≡ P.Waiting
    → (cond (i && is_waiting st) (Finished r) st ≡ st) ⊎ ((phase_of (cond (i && is_waiting st) (Finished r) st) ≡ P.Finished) × (i ≡ true))
finished-waiting true Waiting r w = inr (refl, refl)
finished-waiting true (Begun b) r w = absurd cc
finished-waiting true (Open fs) r w = absurd cc
finished-waiting true (Barred fs) r w = absurd cc
finished-waiting true (Closing fs b) r w = absurd cc
finished-waiting true (Finished q) r w = absurd cc
finished-waiting false st r w = inl refl

-- what was entered isn't finished when a class is barred around it
finished-entered : (i : Bool) (st : NodeStatus) (r : Outcome) → phase_of st ≢ P.Waiting → cond (i && is_waiting st) (Finished r) st ≡ st
finished-entered true Waiting r entered = absurd (entered refl)
finished-entered true (Begun b) r entered = refl
finished-entered true (Open fs) r entered = refl
finished-entered true (Barred fs) r entered = refl
finished-entered true (Closing fs b) r entered = refl
finished-entered true (Finished q) r entered = refl
finished-entered false st r entered = refl

rests-entered : (st : NodeStatus) → is_at_rest st ≡ true → phase_of st ≢ P.Waiting
rests-entered Waiting e w = absurd cc
rests-entered (Begun b) e w = absurd cc
rests-entered (Open fs) e w = cc
rests-entered (Barred fs) e w = cc
rests-entered (Closing fs b) e w = absurd cc
rests-entered (Finished r) e w = absurd cc

-- a first body that is under way
pub begun-phase : (st : NodeStatus) (b : Stage) → body_in st ≡ Some b → is_closing st ≡ false → phase_of st ≡ P.Begun
begun-phase Waiting b e open_yet = absurd cc
begun-phase (Begun c) b e open_yet = refl
begun-phase (Open fs) b e open_yet = absurd cc
begun-phase (Barred fs) b e open_yet = absurd cc
begun-phase (Closing fs c) b e open_yet = absurd cc
begun-phase (Finished r) b e open_yet = absurd cc

pub body-going : (st : NodeStatus) (b : Stage) → body_in st ≡ Some b → is_under_way (phase_of st) ≡ true
body-going Waiting b e = absurd cc
body-going (Begun c) b e = refl
body-going (Open fs) b e = absurd cc
body-going (Barred fs) b e = absurd cc
body-going (Closing fs c) b e = refl
body-going (Finished r) b e = absurd cc

module _ (plan : Planned) (world : Start) (n : ℕ) (s : RunNodes) where
  abbrev x : Suite Head (List ℕ) Resource
  x = suite_at plan world

  -- the node of a last body is finished, and no other node is changed
  pub record IsFinishedBy (t : RunNodes) : Type 0 where
    pub here : is_held (t.status n) ≡ false
    pub ended : is_finished (t.status n) ≡ true
    pub weight_here : weight (phase_of (t.status n)) ≡ 0
    pub there : (m : ℕ) → (m ≡ n → ⊥) → t.status m ≡ s.status m

  -- a node is finished that stands in the node, which is barred
  pub record EndsIn (t : RunNodes) (m : ℕ) : Type 0 where
    pub ended : phase_of (t.status m) ≡ P.Finished
    pub inside : stands_in scripts x m n ≡ true
    pub barred : phase_of (t.status n) ≡ P.Barred

  -- a class is at rest when its first body is left, and what waits in it may be finished
  pub record IsOpenedBy (t : RunNodes) : Type 0 where
    pub held : (m : ℕ) → is_held (t.status m) ≡ is_held (s.status m)
    pub weight_here : weight (phase_of (t.status n)) ≤ 2
    pub no_more : (m : ℕ) → (m ≡ n → ⊥) → weight (phase_of (t.status m)) ≤ weight (phase_of (s.status m))
    pub rests : is_at_rest (t.status n) ≡ true
    pub there : (m : ℕ) → (m ≡ n → ⊥) → phase_of (s.status m) ≢ P.Waiting → t.status m ≡ s.status m
    pub waits : (m : ℕ) → (m ≡ n → ⊥) → phase_of (s.status m) ≡ P.Waiting → (phase_of (t.status m) ≡ P.Waiting) ⊎ EndsIn t m

  finished : (r : Outcome) → IsFinishedBy (finishing scripts x n r s)
  finished r = record {
    here = ap is_held (put_here n (Finished r) s.status);
    ended = ap is_finished (put_here n (Finished r) s.status);
    weight_here = ap (λ (q : NodeStatus). weight (phase_of q)) (put_here n (Finished r) s.status);
    there = λ m ne. put_elsewhere m n (Finished r) s.status ne;
  }

  -- the Leave of a last body
  pub last-left : (kind : BodyKind) (b : Stage) → (kind ≡ K.BeforeAll → ⊥) → is_kind_of kind (row_at (tree_of plan) n).kind ≡ true
      → (st : NodeStatus) → body_in st ≡ Some b → is_after_all kind ≡ is_closing st → IsFinishedBy (leaving scripts x n s st)
  last-left kind b last fits Waiting e same = absurd cc
  last-left kind b last fits (Begun a) e same =
      let test : is_of_test (x.head n) ≡ true = test-kind kind (row_at (tree_of plan) n).kind fits same last in
      subst (λ (t : Bool). IsFinishedBy (cond t (finishing scripts x n (scripts.test_result a) s)
      (cond (ended_well scripts x n a s) (opening_left scripts x n a s) (barring scripts x n (frames_left scripts x n a s) (opening_left scripts x n a s))))) (sym test)
      (finished (scripts.test_result a))
  last-left kind b last fits (Open fs) e same = absurd cc
  last-left kind b last fits (Barred fs) e same = absurd cc
  last-left kind b last fits (Closing fs a) e same = finished (scripts.class_result fs a)
  last-left kind b last fits (Finished r) e same = absurd cc

  module _ (b : Stage) (held : is_held (s.status n) ≡ true) where
    abbrev o : RunNodes
    o = opening_left scripts x n b s

    opened : IsOpenedBy o
    opened =
        let now : NodeStatus = open_or_barred (ended_well scripts x n b s) (frames_left scripts x n b s) in
        let here : weight (phase_of (o.status n)) ≡ 2 = ap (λ (q : NodeStatus). weight (phase_of q)) (put_here n now s.status)
        ∙ open-weight (ended_well scripts x n b s) (frames_left scripts x n b s) in
        record {
          held = λ m. unmoved is_held n now s.status (open-held (ended_well scripts x n b s) (frames_left scripts x n b s) ∙ sym held) m;
          weight_here = omega arith;
          no_more = λ m ne. let same : weight (phase_of (o.status m)) ≡ weight (phase_of (s.status m)) = ap (λ (q : NodeStatus). weight (phase_of q))
              (put_elsewhere m n now s.status ne) in omega arith;
          rests = ap is_at_rest (put_here n now s.status) ∙ open-rests (ended_well scripts x n b s) (frames_left scripts x n b s);
          there = λ m ne entered. put_elsewhere m n now s.status ne;
          waits = λ m ne waited. inl (ap phase_of (put_elsewhere m n now s.status ne) ∙ waited);
        }

    barred : ended_well scripts x n b s ≡ false → IsOpenedBy (barring scripts x n (frames_left scripts x n b s) o)
    barred ill =
        let r = scripts.blocked (frames_left scripts x n b s) in
        let is = opened in
        record {
          held = λ m. finished-held (stands_in scripts x m n) (o.status m) r ∙ is.held m;
          weight_here = let less = finished-weight (stands_in scripts x n n) (o.status n) r in let most = is.weight_here in omega arith;
          no_more = λ m ne. let less = finished-weight (stands_in scripts x m n) (o.status m) r in let most = is.no_more m ne in omega arith;
          rests = ap is_at_rest (finished-entered (stands_in scripts x n n) (o.status n) r (rests-entered (o.status n) is.rests)) ∙ is.rests;
          there = λ m ne entered.
              let same : o.status m ≡ s.status m = is.there m ne entered in
              finished-entered (stands_in scripts x m n) (o.status m) r (λ w. entered (ap phase_of (sym same) ∙ w)) ∙ same;
          waits = λ m ne waited.
              let now : NodeStatus = open_or_barred (ended_well scripts x n b s) (frames_left scripts x n b s) in
              let same : phase_of (o.status m) ≡ P.Waiting = ap phase_of (put_elsewhere m n now s.status ne) ∙ waited in
              elim (finished-waiting (stands_in scripts x m n) (o.status m) r same) [
                | inl e ↦ inl (ap phase_of e ∙ same)
                | inr e ↦
                    inr (record {
                      ended = e.0;
                      inside = e.1;
                      barred =
                          ap phase_of (finished-entered (stands_in scripts x n n) (o.status n) r (rests-entered (o.status n) is.rests))
                          ∙ ap phase_of (put_here n now s.status) ∙ barred-phase (ended_well scripts x n b s) (frames_left scripts x n b s) ill;
                    })
              ];
        }

    either : (well : Bool) → ended_well scripts x n b s ≡ well → IsOpenedBy (cond well o (barring scripts x n (frames_left scripts x n b s) o))
    either true e = opened
    either false e = barred e

  -- the Leave of a first body of a class
  pub first-left : (b : Stage) → is_kind_of K.BeforeAll (row_at (tree_of plan) n).kind ≡ true → is_held (s.status n) ≡ true
      → (st : NodeStatus) → body_in st ≡ Some b → false ≡ is_closing st → IsOpenedBy (leaving scripts x n s st)
  first-left b fits held Waiting e same = absurd cc
  first-left b fits held (Begun a) e same =
      let class : is_of_test (x.head n) ≡ false = class-kind (row_at (tree_of plan) n).kind fits in
      subst (λ (t : Bool). IsOpenedBy (cond t (finishing scripts x n (scripts.test_result a) s)
      (cond (ended_well scripts x n a s) (opening_left scripts x n a s) (barring scripts x n (frames_left scripts x n a s) (opening_left scripts x n a s))))) (sym class)
      (either a held (ended_well scripts x n a s) refl)
  first-left b fits held (Open fs) e same = absurd cc
  first-left b fits held (Barred fs) e same = absurd cc
  first-left b fits held (Closing fs a) e same = absurd cc
  first-left b fits held (Finished r) e same = absurd cc
