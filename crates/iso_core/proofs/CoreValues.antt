-- How the flat map, the standing and the bodies of a core follow a Step, a Leave and a Shut.
use Rattle.std.proofs.Common.{◌≡◌, ℕ, List, Option, Some, Bool, true, false, cond, ◌&&◌, refl, sym, ap, ◌∙◌, subst}
use Rattle.iso_suites.proofs.SuiteLaws.{chain-rights}
use Rattle.iso_core.specs.FlatMaps.{FlatView, IsFlatOf}
use Rattle.iso_standing.specs.Phases.{phase_of}
use Rattle.iso_suites.specs.PlanSuites.{head_of}
use Rattle.iso_suites.specs.ScriptLanguage.{Head, chain_rights, is_of_test, scripts}
use Rattle.iso_standing.specs.Standings.{LooksLike, Standing}
use Rattle.iso_suites.specs.SuiteStates.{RunNodes, RunState, suite_at}
use Rattle.iso_standing.specs.UnderWay.{is_after_all}
use Rattle.iso_isolation.proofs.Changes.{unmoved}
use Rattle.iso_isolation.proofs.Statuses.{body_unseen, rest_held}
use Rattle.iso_isolation.specs.Events as E
use Rattle.iso_isolation.specs.Events.{after, barring, ended_well, frames_left, leaving, open_or_barred, opening_left, shutting, stands_in, where_some}
use Rattle.iso_isolation.specs.Restoring.{finishing}
use Rattle.iso_isolation.specs.States.{Status, Waiting, Begun, Open, Barred, Closing, Finished, body_in, is_at_rest, is_closing, is_held, is_waiting}
use Rattle.iso_isolation.specs.Suites.{Suite, chain}
use Rattle.iso_lifecycle.specs.Subjects.{is_kind_of}
use Rattle.iso_lifecycle.specs.declared.kind.BodyKind.{BodyKind}
use Rattle.iso_lifecycle.specs.declared.kind.BodyKind.TheVariants as K
use Rattle.iso_model.specs.Bodies.{Stage, body_step, going, stage_step}
use Rattle.iso_model.specs.Openings.{Frame}
use Rattle.iso_model.specs.Resources.{Resources}
use Rattle.iso_model.specs.Rights.{Rights}
use Rattle.iso_model.specs.declared.outcome.Outcome.{Outcome}
use Rattle.iso_model.specs.declared.resource.Resource.{Resource}
use Rattle.iso_plan.specs.NodeChains.{node_rights}
use Rattle.iso_plan.specs.Paths.{IsTree, row_at}
use Rattle.iso_plan.specs.Planned.{Planned}
use Rattle.iso_plan.specs.RowView.{tree_of}
use Rattle.iso_plan.specs.Tree.{Kind, root, class_node, test_node}
use Rattle.iso_settings.specs.Worlds.{Start}

abbrev NodeStatus : Type 0
NodeStatus = Status Stage Frame Outcome

-- what changes neither a value nor which nodes are entered, leaves the flat map
pub still-flat : (v : FlatView) (s t : RunNodes) → t.flat ≡ s.flat → t.saved ≡ s.saved → ((n : ℕ) → is_held (t.status n) ≡ is_held (s.status n)) → IsFlatOf v s → IsFlatOf v t
still-flat v s t values saved held is = record {
  now = λ k. is.now k ∙ sym (ap (λ (m : Resources). m k) values);
  marked = λ n h. let old = is.marked n h in (old.0, held n ∙ old.1);
  held = λ n pos h. is.held n pos (sym (held n) ∙ h);
  saved = λ n m k here w. ap (λ (f : ℕ → Resources). f n k) saved ∙ is.saved n m k here w;
}

test-kind : (kind : BodyKind) (k : Kind) → is_kind_of kind k ≡ true → is_after_all kind ≡ false → (kind ≡ K.BeforeAll → ⊥) → is_of_test (head_of k) ≡ true
test-kind K.BeforeAll k fits first last = absurd (last refl)
test-kind K.Test root fits first last = absurd cc
test-kind K.Test (class_node isolated head) fits first last = absurd cc
test-kind K.Test (test_node head) fits first last = refl
test-kind K.AfterAll k fits first last = absurd cc

class-kind : (k : Kind) → is_kind_of K.BeforeAll k ≡ true → is_of_test (head_of k) ≡ false
class-kind root fits = absurd cc
class-kind (class_node isolated head) fits = refl
class-kind (test_node head) fits = absurd cc

-- a `before_all` is the body of what is no test
pub first-kind : (kind : BodyKind) (k : Kind) → is_kind_of kind k ≡ true → is_after_all kind ≡ false → is_of_test (head_of k) ≡ false → kind ≡ K.BeforeAll
first-kind K.BeforeAll k fits first class = refl
first-kind K.Test root fits first class = absurd cc
first-kind K.Test (class_node isolated head) fits first class = absurd cc
first-kind K.Test (test_node head) fits first class = absurd cc
first-kind K.AfterAll k fits first class = absurd cc

module _ (plan : Planned) (world : Start) where
  abbrev x : Suite Head (List ℕ) Resource
  x = suite_at plan world

  -- a Shut changes no value
  pub flat-shut : (v : FlatView) (n : ℕ) (s : RunNodes) → is_at_rest (s.status n) ≡ true → IsFlatOf v s → IsFlatOf v (shutting scripts x n s)
  flat-shut v n s rests is = still-flat v s (shutting scripts x n s) refl refl (λ m. unmoved is_held n _ s.status (sym (rest_held (s.status n) rests)) m) is

  -- the Leave of a last body lets the values stand as the node saved them
  pub flat-last : (v : FlatView) (n : ℕ) (s : RunNodes) (kind : BodyKind) (b : Stage) → (kind ≡ K.BeforeAll → ⊥) → is_kind_of kind (row_at (tree_of plan) n).kind ≡ true
      → ((r : Outcome) → IsFlatOf v (finishing scripts x n r s)) → (st : NodeStatus) → body_in st ≡ Some b → is_after_all kind ≡ is_closing st → IsFlatOf v (leaving scripts x n s st)
  flat-last v n s kind b last fits values Waiting e same = absurd cc
  flat-last v n s kind b last fits values (Begun a) e same =
      let test : is_of_test (x.head n) ≡ true = test-kind kind (row_at (tree_of plan) n).kind fits same last in
      subst (λ (t : Bool). IsFlatOf v (cond t (finishing scripts x n (scripts.test_result a) s)
      (cond (ended_well scripts x n a s) (opening_left scripts x n a s) (barring scripts x n (frames_left scripts x n a s) (opening_left scripts x n a s))))) (sym test)
      (values (scripts.test_result a))
  flat-last v n s kind b last fits values (Open fs) e same = absurd cc
  flat-last v n s kind b last fits values (Barred fs) e same = absurd cc
  flat-last v n s kind b last fits values (Closing fs a) e same = values (scripts.class_result fs a)
  flat-last v n s kind b last fits values (Finished r) e same = absurd cc

  open-held : (t : Bool) (fs : List Frame) → is_held {B = Stage} {F = Frame} {R = Outcome} (open_or_barred t fs) ≡ true
  open-held true fs = refl
  open-held false fs = refl

  finished-held : (i : Bool) (st : NodeStatus) (r : Outcome) → is_held (cond (i && is_waiting st) (Finished r) st) ≡ is_held st
  finished-held true Waiting r = refl
  finished-held true (Begun b) r = refl
  finished-held true (Open fs) r = refl
  finished-held true (Barred fs) r = refl
  finished-held true (Closing fs b) r = refl
  finished-held true (Finished q) r = refl
  finished-held false st r = refl

  -- the Leave of a `before_all` changes no value
  module _ (v : FlatView) (n : ℕ) (s : RunNodes) (b : Stage) (is : IsFlatOf v s) where
    flat-opened : is_held (s.status n) ≡ true → IsFlatOf v (opening_left scripts x n b s)
    flat-opened held =
        still-flat v s (opening_left scripts x n b s) refl refl (λ m. unmoved is_held n _ s.status (open-held (ended_well scripts x n b s) (frames_left scripts x n b s) ∙ sym held) m) is

    flat-opening : is_held (s.status n) ≡ true → (well : Bool)
        → IsFlatOf v (cond well (opening_left scripts x n b s) (barring scripts x n (frames_left scripts x n b s) (opening_left scripts x n b s)))
    flat-opening held true = flat-opened held
    flat-opening held false =
        let o = opening_left scripts x n b s in
        let fs = frames_left scripts x n b s in
        still-flat v o (barring scripts x n fs o) refl refl (λ m. finished-held (stands_in scripts x m n) (o.status m) (scripts.blocked fs)) (flat-opened held)

  pub flat-first : (v : FlatView) (n : ℕ) (s : RunNodes) (b : Stage) → is_kind_of K.BeforeAll (row_at (tree_of plan) n).kind ≡ true → IsFlatOf v s → is_held (s.status n) ≡ true
      → (st : NodeStatus) → body_in st ≡ Some b → false ≡ is_closing st → IsFlatOf v (leaving scripts x n s st)
  flat-first v n s b fits is held Waiting e same = absurd cc
  flat-first v n s b fits is held (Begun a) e same =
      let class : is_of_test (x.head n) ≡ false = class-kind (row_at (tree_of plan) n).kind fits in
      subst (λ (t : Bool). IsFlatOf v (cond t (finishing scripts x n (scripts.test_result a) s)
      (cond (ended_well scripts x n a s) (opening_left scripts x n a s) (barring scripts x n (frames_left scripts x n a s) (opening_left scripts x n a s))))) (sym class)
      (flat-opening v n s a is held (ended_well scripts x n a s))
  flat-first v n s b fits is held (Open fs) e same = absurd cc
  flat-first v n s b fits is held (Barred fs) e same = absurd cc
  flat-first v n s b fits is held (Closing fs a) e same = absurd cc
  flat-first v n s b fits is held (Finished r) e same = absurd cc

  -- what a Step and a Leave come to at a worker's node
  pub stepped-nodes : (s : RunState) (w n : ℕ) (b : Stage) → s.busy w ≡ Some n → body_in (s.nodes.status n) ≡ Some b → (after scripts x s (E.Step w)).nodes ≡ E.stepping scripts x n s.nodes b
  stepped-nodes s w n b busy here =
      ap (λ (o : Option ℕ). where_some o s.nodes (λ m. where_some (body_in (s.nodes.status m)) s.nodes (E.stepping scripts x m s.nodes))) busy
      ∙ ap (λ (o : Option Stage). where_some o s.nodes (E.stepping scripts x n s.nodes)) here

  pub left-nodes : (s : RunState) (w n : ℕ) → s.busy w ≡ Some n → (after scripts x s (E.Leave w)).nodes ≡ leaving scripts x n s.nodes (s.nodes.status n)
  left-nodes s w n busy = ap (λ (o : Option ℕ). where_some o s.nodes (λ m. leaving scripts x m s.nodes (s.nodes.status m))) busy

  -- a Step changes no phase
  pub looks-step : (v : Standing) (s : RunState) (w n : ℕ) (b : Stage) → s.busy w ≡ Some n → body_in (s.nodes.status n) ≡ Some b → LooksLike v s → LooksLike v (after scripts x s (E.Step w))
  looks-step v s w n b busy here like = record {
    phases = λ m h.
        ap (λ (t : RunNodes). phase_of (t.status m)) (stepped-nodes s w n b busy here)
        ∙ unmoved phase_of n _ s.nodes.status (body_unseen phase_of (λ d e. refl) (λ fs d e. refl) (s.nodes.status n) _) m
        ∙ like.phases m h;
    owners = like.owners;
    bodies = like.bodies;
    stopped = like.stopped;
  }

  -- a step by the rights of a node is one of its chain, on equal resources
  pub same-step : IsTree (tree_of plan) → (n : ℕ) (b : Stage) (m f : Resources) → ((k : List ℕ) → m k ≡ f k)
      → (body_step (node_rights (tree_of plan) n) (going b m)).stage ≡ (scripts.step (chain x n) b f).body
  same-step t n b m f same =
      let rights : node_rights (tree_of plan) n ≡ chain_rights (chain x n) = λ i k. sym (chain-rights (tree_of plan) t plan.settings x.start k n) i in
      let content : m ≡ f = λ i k. same k i in
      ap (λ (r : Rights). (stage_step r b m).stage) rights ∙ ap (λ (q : Resources). (stage_step (chain_rights (chain x n)) b q).stage) content
