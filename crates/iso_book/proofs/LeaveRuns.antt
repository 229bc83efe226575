-- A book at a Leave of a body that is the worker's: the state once the body's steps are made, and what is so there.
use Rattle.std.proofs.Common.{◌≡◌, ℕ, zero, suc, ◌<◌, List, [], ◌∷◌, Option, Some, None, Bool, true, false, ◌==◌, not, length, replicate, is_none, is_some, refl, sym, ap, ap₂, ◌∙◌, subst, arith}
use Rattle.std.specs.Option.{option_or}
use Rattle.iso_book.proofs.LeaveStates.{NodeStatus}
use Rattle.iso_book.proofs.Runs.{going-on, reached}
use Rattle.iso_book.specs.Books.{BookView, IsBook, state_in, suite_in, weight, with_event}
use Rattle.iso_book.specs.Leaves.{booking_in, is_body_at, is_of_worker, is_under_way, leave_refusal_in}
use Rattle.iso_isolation.proofs.Accepted.{HasBody, has_body, in_plan, none_applies, not_refused}
use Rattle.iso_isolation.proofs.Invariant.{Kept}
use Rattle.iso_isolation.proofs.Statuses.{body_held}
use Rattle.iso_isolation.specs.Events as E
use Rattle.iso_isolation.specs.Events.{after, stepping, where_some}
use Rattle.iso_isolation.specs.Histories.{IsHistory, state_of}
use Rattle.iso_isolation.specs.Refusals as Why
use Rattle.iso_isolation.specs.Refusals.{Refused, body_of, first_of, refuse}
use Rattle.iso_isolation.specs.Runs.{after_all_of, full}
use Rattle.iso_isolation.specs.States as S
use Rattle.iso_isolation.specs.States.{body_in, first, is_closing, is_held}
use Rattle.iso_isolation.specs.Suites.{Suite}
use Rattle.iso_lifecycle.specs.DoneViews.{DoneView}
use Rattle.iso_lifecycle.specs.ResultViews.{ResultsView}
use Rattle.iso_lifecycle.specs.Subjects.{is_kind_of, started}
use Rattle.iso_lifecycle.specs.declared.kind.BodyKind.{BodyKind}
use Rattle.iso_lifecycle.specs.declared.kind.BodyKind.TheVariants as K
use Rattle.iso_locks.specs.Vaults.{VaultView}
use Rattle.iso_model.specs.Bodies.{Stage}
use Rattle.iso_model.specs.Resources.{Resources}
use Rattle.iso_model.specs.declared.resource.Resource.{Resource}
use Rattle.iso_plan.proofs.PathLemmas.{eq_from}
use Rattle.iso_plan.specs.Paths.{IsTree, is_class_or_test, is_test, row_at}
use Rattle.iso_plan.specs.Planned.{Planned}
use Rattle.iso_plan.specs.RowView.{tree_of}
use Rattle.iso_plan.specs.Tree.{Kind, root, class_node, test_node}
use Rattle.iso_settings.specs.Worlds.{Start}
use Rattle.iso_standing.proofs.EventLists.{map-append}
use Rattle.iso_standing.proofs.Looks.{body-is, held-is}
use Rattle.iso_standing.specs.CodeEvents.{events_of}
use Rattle.iso_standing.specs.Phases.{bare, phase_of}
use Rattle.iso_standing.specs.KindsAt.{booking_kinds}
use Rattle.iso_standing.specs.ResultStates.{AreResultsOf, AtLeave}
use Rattle.iso_standing.specs.Standings as Standings
use Rattle.iso_standing.specs.Standings.{LooksLike, Standing, after_in, node_of, nodes_in, phase_at, workers_in}
use Rattle.iso_standing.specs.UnderWay.{is_after_all}
use Rattle.iso_standing.specs.declared.event.Event.TheVariants as Code
use Rattle.iso_standing.specs.declared.phase.Phase.{Phase}
use Rattle.iso_suites.proofs.PlanOpenings.{class-kind, kept}
use Rattle.iso_suites.proofs.StateRuns.{as-is, both-true}
use Rattle.iso_suites.specs.PlanSuites.{head_of, suite_of}
use Rattle.iso_suites.specs.ScriptLanguage.{Head, is_of_test, scripts}
use Rattle.iso_suites.specs.SuiteStates.{GoesOnByLeave, RunNodes, RunState, booking_refusal, stopped_if, suite_at}

none-first : (o p : Option Refused) → option_or o p ≡ None → (o ≡ None) × (p ≡ None)
none-first None p e = (refl, e)
none-first (Some k) p e = absurd cc

none-of : (o : Option Refused) → o ≡ None → is_none o ≡ true
none-of None e = refl
none-of (Some k) e = absurd cc

owned : (j : Bool) (m : ℕ) → refuse (not j) (Why.OtherBody m) ≡ None → j ≡ true
owned true m e = refl
owned false m e = absurd cc

not-true : (p : Bool) → not p ≡ true → p ≡ false
not-true true e = absurd cc
not-true false e = refl

closing-is : (st : NodeStatus) → is_closing st ≡ is_closing (bare (phase_of st))
closing-is S.Waiting = refl
closing-is (S.Begun b) = refl
closing-is (S.Open fs) = refl
closing-is (S.Barred fs) = refl
closing-is (S.Closing fs b) = refl
closing-is (S.Finished r) = refl

last-fits : (k : Kind) → is_class_or_test k ≡ true → is_of_test (head_of k) ≡ false → is_kind_of K.AfterAll k ≡ true
last-fits root full class = absurd cc
last-fits (class_node isolated head) full class = refl
last-fits (test_node head) full class = absurd cc

test-fits : (k : Kind) → is_test k ≡ true → is_kind_of K.Test k ≡ true
test-fits root test = absurd cc
test-fits (class_node isolated head) test = absurd cc
test-fits (test_node head) test = refl

-- where no Leave is refused but for its tray, the body is the worker's
pub unrefused : (b : BookView) (w : ℕ) (d : DoneView) → leave_refusal_in b w d ≡ None → (booking_in b w ≡ None) × (is_of_worker b w d ≡ true)
unrefused b w d e =
    let parts = none-first (booking_in b w) (refuse (not (is_of_worker b w d)) (Why.OtherBody d.subject.node)) e in
    (parts.0, owned (is_of_worker b w d) d.subject.node parts.1)

-- of the kinds of refusal the first that applies
pub refused-first : (b : BookView) (w : ℕ) (d : DoneView) (kind : Refused) → booking_in b w ≡ Some kind → leave_refusal_in b w d ≡ Some kind
refused-first b w d kind e = ap (λ (o : Option Refused). option_or o (refuse (not (is_of_worker b w d)) (Why.OtherBody d.subject.node))) e

pub refused-then : (b : BookView) (w : ℕ) (d : DoneView) (j : Bool) → booking_in b w ≡ None → is_of_worker b w d ≡ j
    → leave_refusal_in b w d ≡ refuse (not j) (Why.OtherBody d.subject.node)
refused-then b w d j e owner =
    ap (λ (o : Option Refused). option_or o (refuse (not (is_of_worker b w d)) (Why.OtherBody d.subject.node))) e
    ∙ ap (λ (t : Bool). refuse (not t) (Why.OtherBody d.subject.node)) owner

-- what a standing tells of a Leave is so of its book
pub booking-as : (b : BookView) (v : Standing) (vault : VaultView) (r : ResultsView) (room : ℕ) → IsBook b v vault r room → (w : ℕ) (o : Option Refused)
    → ((start : Resources) (s : RunState) → LooksLike v s → booking_kinds v start s w ≡ o) → booking_in b w ≡ o
booking-as b v vault r room is w o tells =
    sym (ap₂ (λ (p : Planned) (m : ℕ). booking_refusal (suite_of (tree_of p) p.settings (started b.world)) m (state_in b) w) is.standing_plan is.workers)
    ∙ tells (started b.world) (state_in b) is.stands

-- the law of `histories_go_on_by_leaves`, and those on Steps of `standings_tell_of_states` and `results_follow_nodes`
abbrev pub GoOnByLeaves : Planned → Type 0
GoOnByLeaves plan =
    (world : Start) (workers : ℕ) (h : List E.Event) (w : ℕ) → IsHistory scripts (suite_at plan world) workers h
    → booking_refusal (suite_at plan world) workers (state_of scripts (suite_at plan world) h) w ≡ None → GoesOnByLeave plan world workers h w

abbrev pub LookOn : Type 0
LookOn = (v : Standing) (start : Resources) (s : RunState) (w : ℕ) → LooksLike v s → LooksLike v (after_in v start s (E.Step w))

abbrev pub ResultsStay : Planned → Type 0
ResultsStay plan =
    (world : Start) (r : ResultsView) (s : RunNodes) (n : ℕ) (b : Stage) → AreResultsOf r s → body_in (s.status n) ≡ Some b
    → AreResultsOf r (stepping scripts (suite_at plan world) n s b)

module _ (b : BookView) (v : Standing) (vault : VaultView) (r : ResultsView) (room : ℕ) (is : IsBook b v vault r room) (w : ℕ) (allowed : booking_in b w ≡ None) where
  abbrev x : Suite Head (List ℕ) Resource
  x = suite_in b

  abbrev s : RunState
  s = state_in b

  abbrev run : RunState
  run = state_of scripts x (events_of b.history)

  told : (Why.stopped scripts x b.workers s ≡ None) × ((Why.no_worker scripts x b.workers s w ≡ None) × ((Why.no_body scripts x b.workers s w ≡ None) × Unit {0}))
  told = none_applies (Why.stopped scripts x b.workers s ∷ Why.no_worker scripts x b.workers s w ∷ Why.no_body scripts x b.workers s w ∷ []) (none-of (booking_in b w) allowed)

  pub on : b.stopped ≡ false
  on = not_refused b.stopped Why.Stopped told.0

  pub worker-in : w < b.workers
  worker-in = in_plan b.workers w (not_refused _ Why.NoWorker told.1.0)

  -- the body that the worker has
  pub own : HasBody scripts x b.workers s w
  own = has_body scripts x b.workers s w (not_refused (not (is_some (body_of scripts x b.workers s w))) Why.NoBody told.1.1.0)

  worker-there : w < workers_in v
  worker-there = let count = is.workers in let less = worker-in in omega arith

  pub node-is : node_of v w ≡ Some own.node
  node-is = sym (is.stands.bodies w worker-there) ∙ own.busy

  pub node-known : (m : ℕ) → node_of v w ≡ Some m → m ≡ own.node
  node-known m e = let here = node-is in cc

  module _ (tree : IsTree (tree_of b.plan)) where
    keeps : Kept scripts x s.nodes
    keeps = kept b.plan b.world tree s (reached b is.history on)

    nonzero : own.node ≡ 0 → ⊥
    nonzero e =
        let here : body_in (s.nodes.status 0) ≡ Some own.body = ap (λ (j : ℕ). body_in (s.nodes.status j)) (sym e) ∙ own.here in
        let none : body_in (s.nodes.status 0) ≡ None = ap body_in keeps.locked.root in
        cc

    pub inner : 0 < own.node
    inner = omega (arith, nonzero)

    pub within : own.node < length b.plan.rows
    within = keeps.locked.inside own.node nonzero (body_held (s.nodes.status own.node) own.body own.here)

    pub node-within : (m : ℕ) → node_of v w ≡ Some m → m < length b.plan.rows
    node-within m e = let same = node-known m e in let less = within in omega arith

    -- the standing has the body
    pub has-body : Standings.HasBody v w
    has-body =
        let rows = ap (λ (p : Planned). length p.rows) is.standing_plan in
        let inside = within in
        let phase : bare (phase_at v own.node) ≡ bare (phase_of (s.nodes.status own.node)) = ap bare (sym (is.stands.phases own.node (omega arith))) in
        record {
          worker = worker-there;
          body = ap (λ (o : Option ℕ). is_some (where_some o None (λ m. body_in (bare (phase_at v m))))) node-is
              ∙ ap (λ (q : _). is_some (body_in q)) phase
              ∙ sym (body-is (s.nodes.status own.node))
              ∙ ap (λ (o : Option Stage). is_some o) own.here;
        }

    -- which of its node's bodies it is
    abbrev closed : Bool
    closed = is_closing (s.nodes.status own.node)

    abbrev kind : Kind
    kind = (row_at (tree_of b.plan) own.node).kind

    closing-by : (k : BodyKind) → is_under_way b own.node k ≡ true → is_after_all k ≡ closed
    closing-by K.BeforeAll u = sym (not-true closed (both-true (not closed) (not (is_test kind)) u).0)
    closing-by K.Test u = sym (not-true closed (both-true (not closed) (is_test kind) u).0)
    closing-by K.AfterAll u = sym u

    fits-by : (k : BodyKind) → is_under_way b own.node k ≡ true → is_kind_of k kind ≡ true
    fits-by K.BeforeAll u = class-kind kind (not-true (is_test kind) (both-true (not closed) (not (is_test kind)) u).1) (tree.full own.node inner within)
    fits-by K.Test u = test-fits kind (both-true (not closed) (is_test kind) u).1
    fits-by K.AfterAll u = last-fits kind (tree.full own.node inner within) (keeps.class own.node u)

    module _ (d : DoneView) (mine : is_of_worker b w d ≡ true) where
      mine-here : is_body_at b d own.node ≡ true
      mine-here = sym (ap (λ (o : Option ℕ). where_some o false (is_body_at b d)) own.busy) ∙ mine

      here : ((own.node == d.subject.node) ≡ true) × (is_under_way b own.node d.kind ≡ true)
      here = both-true (own.node == d.subject.node) (is_under_way b own.node d.kind) mine-here

      pub node-done : own.node ≡ d.subject.node
      node-done = eq_from own.node d.subject.node here.0

      pub closing-done : is_after_all d.kind ≡ closed
      closing-done = closing-by d.kind here.1

      pub fits-done : is_kind_of d.kind kind ≡ true
      fits-done = fits-by d.kind here.1

      -- its node is one of the plan, and not the root
      pub node-bounds : (0 < d.subject.node) × (d.subject.node < length b.plan.rows)
      node-bounds =
          (subst (λ (m : ℕ). 0 < m) node-done inner, subst (λ (m : ℕ). m < length b.plan.rows) node-done within)

  -- the history goes on by the Leave
  pub goes : GoOnByLeaves b.plan → GoesOnByLeave b.plan b.world b.workers (events_of b.history) w
  goes law = law b.world b.workers (events_of b.history) w is.history (subst (λ (q : RunState). booking_refusal x b.workers q w ≡ None) (going-on b on) allowed)

  module _ (g : GoesOnByLeave b.plan b.world b.workers (events_of b.history) w) where
    -- what Steps of the worker keep
    after-steps : (P : RunState → Type 0) → ((q : RunState) → P q → P (after scripts x q (E.Step w))) → P s → P g.before
    after-steps P step p = subst P g.made (go g.steps run (subst P (going-on b on) p))
      where
        go : (i : ℕ) (q : RunState) → P q → P (after_all_of scripts x q (replicate i (E.Step w)))
        go zero q old = old
        go (suc i) q old = go i (after scripts x q (E.Step w)) (step q old)

    pub looks-before : LookOn → LooksLike v g.before
    looks-before law =
        after-steps (LooksLike v)
        (λ q like. subst (λ (p : Planned). LooksLike v (after scripts (suite_of (tree_of p) p.settings (started b.world)) q (E.Step w))) is.standing_plan (law v (started b.world) q w like)) is.stands

    pub results-before : ResultsStay b.plan → AreResultsOf r g.before.nodes
    results-before law = after-steps (λ (q : RunState). AreResultsOf r q.nodes) (λ q are. at-node q are (q.busy w)) is.results_are
      where
        at-body : (q : RunState) (n : ℕ) → AreResultsOf r q.nodes → (o : Option Stage) → body_in (q.nodes.status n) ≡ o
            → AreResultsOf r (where_some o q.nodes (stepping scripts x n q.nodes))
        at-body q n are None e = are
        at-body q n are (Some a) e = law b.world r q.nodes n a are e

        at-node : (q : RunState) → AreResultsOf r q.nodes → (o : Option ℕ)
            → AreResultsOf r (where_some o q.nodes (λ n. where_some (body_in (q.nodes.status n)) q.nodes (stepping scripts x n q.nodes)))
        at-node q are None = are
        at-node q are (Some n) = at-body q n are (body_in (q.nodes.status n)) refl

    module _ (like : LooksLike v g.before) where
      -- the worker has its node still, and no node is further
      pub same-node : g.node ≡ own.node
      same-node =
          let before : node_of v w ≡ Some g.node = sym (like.bodies w worker-there) ∙ g.busy in
          let now = node-is in
          cc

      pub same-phase : (m : ℕ) → m < length b.plan.rows → phase_of (g.before.nodes.status m) ≡ phase_of (s.nodes.status m)
      same-phase m h =
          let rows = ap (λ (p : Planned). length p.rows) is.standing_plan in
          let inside : m < nodes_in v = omega arith in
          like.phases m inside ∙ sym (is.stands.phases m inside)

      pub same-owner : (m : ℕ) → m < length b.plan.rows → g.before.owner m ≡ s.owner m
      same-owner m h =
          let rows = ap (λ (p : Planned). length p.rows) is.standing_plan in
          let inside : m < nodes_in v = omega arith in
          like.owners m inside ∙ sym (is.stands.owners m inside)

      pub same-held : (m : ℕ) → m < length b.plan.rows → is_held (g.before.nodes.status m) ≡ is_held (s.nodes.status m)
      same-held m h =
          held-is (g.before.nodes.status m) ∙ ap (λ (p : Phase). is_held (bare p)) (same-phase m h) ∙ sym (held-is (s.nodes.status m))

      pub same-weight : (m : ℕ) → m < length b.plan.rows → weight (phase_of (g.before.nodes.status m)) ≡ weight (phase_of (s.nodes.status m))
      same-weight m h = ap weight (same-phase m h)

      pub busy-before : g.before.busy w ≡ Some own.node
      busy-before = g.busy ∙ ap (λ (n : ℕ). Some n) same-node

      pub there-before : body_in (g.before.nodes.status own.node) ≡ Some g.body
      there-before = subst (λ (n : ℕ). body_in (g.before.nodes.status n) ≡ Some g.body) same-node g.there

      -- the body is left there
      pub at-leave : (tree : IsTree (tree_of b.plan)) (d : DoneView) → is_of_worker b w d ≡ true → AreResultsOf r g.before.nodes
          → AtLeave b.plan b.world r g.before own.node g.body d.kind
      at-leave tree d mine are = record {
        reached = g.reached;
        results = are;
        of_plan = is.results_plan;
        of_world = is.results_world;
        inner = inner tree;
        within = within tree;
        body = there-before;
        closing = closing-done tree d mine
            ∙ closing-is (s.nodes.status own.node)
            ∙ ap (λ (p : Phase). is_closing (bare p)) (sym (same-phase own.node (within tree)))
            ∙ sym (closing-is (g.before.nodes.status own.node));
        fits = fits-done tree d mine;
      }

      -- the state with the Leave
      pub next : state_in (with_event b (Code.Leave w)) ≡ after scripts x g.before (E.Leave w)
      next =
          ap (λ (es : List E.Event). stopped_if b.stopped (state_of scripts x es)) (map-append b.history (Code.Leave w ∷ []))
          ∙ ap (stopped_if b.stopped) g.state
          ∙ as-is b.stopped (after scripts x g.before (E.Leave w)) (like.stopped ∙ sym is.stands.stopped)
