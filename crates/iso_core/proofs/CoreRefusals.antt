-- Why a core refuses an event, and what an event tells that it doesn't refuse.
use Rattle.std.proofs.Common.{◌≡◌, ℕ, ◌<◌, List, Option, Some, None, Bool, true, false, ◌&&◌, ◌||◌, not, leb, length, is_some, inl, inr, refl, sym, ap, ◌∙◌, subst, arith}
use Rattle.std.proofs.lemmas.Bool.Decides.{leb_tells}
use Rattle.iso_core.proofs.CoreRuns.{accepted, idle, unstopped}
use Rattle.iso_standing.proofs.Looks.{nodes-are}
use Rattle.iso_suites.proofs.SuiteLaws.{positive}
use Rattle.iso_core.specs.Cores.{CoreView, IsCore, refusal_in, state_in, suite_in}
use Rattle.iso_core.specs.FlatMaps.{FlatView}
use Rattle.iso_suites.specs.ScriptLanguage.{is_of_test, scripts}
use Rattle.iso_standing.specs.Standings as Standings
use Rattle.iso_suites.specs.SuiteStates.{RunState}
use Rattle.iso_standing.specs.Standings.{EndsAs, Fits, TellsEnd, HasBody, LooksLike, Standing, has_body_at, node_of, phase_at, workers_in}
use Rattle.iso_suites.specs.PlanSuites.{suite_of}
use Rattle.iso_standing.specs.UnderWay.{HasUnderWay, IsUnderWay, body_at}
use Rattle.iso_isolation.proofs.Accepted.{enter_passes, in_plan, leave_passes, nonzero_from, not_refused, shut_passes, step_passes}
use Rattle.iso_isolation.specs.Events.{where_some}
use Rattle.iso_isolation.specs.Refusals as Why
use Rattle.iso_isolation.specs.Refusals.{Refused, body_of, is_root, refusal}
use Rattle.iso_isolation.specs.States.{body_in, is_at_rest, is_open, is_waiting}
use Rattle.iso_lifecycle.specs.BodyViews.{stage_of_body}
use Rattle.iso_lifecycle.specs.ResultViews.{ResultsView}
use Rattle.iso_lifecycle.specs.Subjects.{started}
use Rattle.iso_lifecycle.specs.declared.body.Body.{Body}
use Rattle.iso_model.specs.Bodies.{Stage, is_ended}
use Rattle.iso_plan.specs.Paths.{parent}
use Rattle.iso_plan.specs.Planned.{Planned}
use Rattle.iso_plan.specs.RowView.{tree_of}
use Rattle.iso_standing.specs.CodeEvents.{event_of, worker_of}
use Rattle.iso_standing.specs.declared.event.Event.{Event}
use Rattle.iso_standing.specs.declared.event.Event.TheVariants as Code

-- what an Enter tells that isn't refused
pub record EnterTold (c : CoreView) (w n : ℕ) : Type 0 where
  pub worker : w < c.workers
  pub inside : n < length c.plan.rows
  pub inner : 0 < n
  pub free : (state_in c).busy w ≡ None
  pub parent_open : is_open ((state_in c).nodes.status (parent (tree_of c.plan) n)) ≡ true
  pub waiting : is_waiting ((state_in c).nodes.status n) ≡ true

-- what a Step or a Leave tells that isn't refused: there is a body, and whether it has ended
pub record BodyTold (c : CoreView) (bodies : List (Option Body)) (w : ℕ) (over : Bool) : Type 0 where
  pub worker : w < c.workers
  pub node : ℕ
  pub busy : (state_in c).busy w ≡ Some node
  pub under : HasUnderWay c.plan c.world node (body_at bodies w) (state_in c).nodes
  pub ended : is_ended (stage_of_body under.body) ≡ over

-- what a Shut tells that isn't refused
pub record ShutTold (c : CoreView) (w n : ℕ) : Type 0 where
  pub worker : w < c.workers
  pub inside : n < length c.plan.rows
  pub inner : 0 < n
  pub free : (state_in c).busy w ≡ None
  pub rests : is_at_rest ((state_in c).nodes.status n) ≡ true
  pub class : is_of_test ((suite_in c).head n) ≡ false

either-false : (a b : Bool) → (a || b) ≡ false → (a ≡ false) × (b ≡ false)
either-false true b e = absurd cc
either-false false b e = (refl, e)

last-false : (a b : Bool) → (a && b) ≡ false → a ≡ true → b ≡ false
last-false true b e t = e
last-false false b e t = absurd cc

un-not : (b : Bool) → not b ≡ false → b ≡ true
un-not true e = refl
un-not false e = absurd cc

un-not-false : (b : Bool) → not b ≡ true → b ≡ false
un-not-false true e = absurd cc
un-not-false false e = refl

module _ (c : CoreView) (v : Standing) (flat : FlatView) (bodies : List (Option Body)) (r : ResultsView) (is : IsCore c v flat bodies r) where
  abbrev state : RunState
  state = state_in c

  -- whether the body of a worker has ended
  abbrev pub ended_at : ℕ → Bool
  ended_at w = where_some (body_at bodies w) false (λ b. is_ended (stage_of_body b))

  module _ (on : c.stopped ≡ false) where
    -- a worker that has a node is one of the workers
    worker-at : (w n : ℕ) → state.busy w ≡ Some n → w < length bodies
    worker-at w n e = elim (leb_tells c.workers w) [
      | inl p ↦ let none = idle c is.run w p.1 in absurd cc
      | inr p ↦ let fit = is.bodies_fit in omega (arith, p.1)
    ]

    under-at : (w n : ℕ) → state.busy w ≡ Some n → HasUnderWay c.plan c.world n (body_at bodies w) state.nodes
    under-at w n e = (is.bodies_are on).at w n (worker-at w n e) e

    ended-is : (w n : ℕ) (e : state.busy w ≡ Some n) → ended_at w ≡ is_ended (stage_of_body (under-at w n e).body)
    ended-is w n e = ap (λ (o : Option Body). where_some o false (λ b. is_ended (stage_of_body b))) (under-at w n e).there

    ends-by : (w : ℕ) (b : Stage) (o : Option ℕ) → state.busy w ≡ o → where_some o None (λ n. body_in (state.nodes.status n)) ≡ Some b → is_ended b ≡ ended_at w
    ends-by w b None e h = absurd cc
    ends-by w b (Some n) e h =
        let u = under-at w n e in
        let same : b ≡ stage_of_body u.body = let s = u.is.stage in cc in
        ap is_ended same ∙ sym (ended-is w n e)

    ends-as : (w : ℕ) → EndsAs v state w (ended_at w)
    ends-as w start b e = ends-by w b (state.busy w) refl e

    pub tells-end : (e : Event) → TellsEnd v state e (ended_at (worker_of e))
    tells-end (Code.Enter w n) = tt
    tells-end (Code.Step w) = ends-as w
    tells-end (Code.Leave w) = ends-as w
    tells-end (Code.Shut w n) = tt

    -- its standing refuses what the state machine refuses
    pub refusal-is : (e : Event) → Standings.refusal_in v (started c.world) state (event_of e) ≡ refusal_in c e
    refusal-is e =
        ap (λ (p : Planned). refusal scripts (suite_of (tree_of p) p.settings (started c.world)) (workers_in v) state (event_of e)) is.standing_plan
        ∙ ap (λ (m : ℕ). refusal scripts (suite_in c) m state (event_of e)) is.workers

    free-by : (w : ℕ) (o : Option ℕ) → state.busy w ≡ o → is_some (where_some o None (λ n. body_in (state.nodes.status n))) ≡ false → o ≡ None
    free-by w None e h = refl
    free-by w (Some n) e h = let s = (under-at w n e).is.stage in absurd cc

    free-of : (w : ℕ) → Why.worker_busy scripts (suite_in c) c.workers state w ≡ None → state.busy w ≡ None
    free-of w h = free-by w (state.busy w) refl (not_refused (is_some (body_of scripts (suite_in c) c.workers state w)) Why.WorkerBusy h)

    body-by : (w : ℕ) (o : Option ℕ) → state.busy w ≡ o → w < c.workers → is_some (where_some o None (λ n. body_in (state.nodes.status n))) ≡ true → BodyTold c bodies w (ended_at w)
    body-by w None e less h = absurd cc
    body-by w (Some n) e less h = record { worker = less; node = n; busy = e; under = under-at w n e; ended = sym (ended-is w n e) }

  worker-of : (w : ℕ) → Why.no_worker scripts (suite_in c) c.workers state w ≡ None → w < c.workers
  worker-of w e = in_plan c.workers w (not_refused (leb c.workers w) Why.NoWorker e)

  node-of : (n : ℕ) → Why.no_node scripts (suite_in c) c.workers state n ≡ None → n < length c.plan.rows
  node-of n e =
      let less = in_plan (suite_in c).nodes n (not_refused (leb (suite_in c).nodes n) Why.NoNode e) in
      let count = nodes-are c.plan in
      omega (arith, less, count)

  pub enter-told : (w n : ℕ) → refusal_in c (Code.Enter w n) ≡ None → EnterTold c w n
  enter-told w n h =
      let t = enter_passes scripts (suite_in c) c.workers state w n (accepted c (Code.Enter w n) h) in
      let st = state.nodes.status in
      let fresh = either-false (is_root n) (not (is_waiting (st n))) (not_refused (is_root n || not (is_waiting (st n))) Why.AlreadyEntered t.fresh) in
      let shut = not_refused (not (is_root n) && not (is_open (st (parent (tree_of c.plan) n)))) Why.ParentClosed t.parent in
      record {
        worker = worker-of w t.worker;
        inside = node-of n t.node;
        inner = positive n (nonzero_from n fresh.0);
        free = free-of (unstopped c (Code.Enter w n) h) w t.free;
        parent_open = un-not (is_open (st (parent (tree_of c.plan) n))) (last-false (not (is_root n)) (not (is_open (st (parent (tree_of c.plan) n)))) shut (ap not fresh.0));
        waiting = un-not (is_waiting (st n)) fresh.1;
      }

  pub shut-told : (w n : ℕ) → refusal_in c (Code.Shut w n) ≡ None → ShutTold c w n
  shut-told w n h =
      let t = shut_passes scripts (suite_in c) c.workers state w n (accepted c (Code.Shut w n) h) in
      let st = state.nodes.status in
      let class = either-false (is_root n) (is_of_test ((suite_in c).head n)) (not_refused (is_root n || is_of_test ((suite_in c).head n)) Why.NotClass t.class) in
      record {
        worker = worker-of w t.worker;
        inside = node-of n t.node;
        inner = positive n (nonzero_from n class.0);
        free = free-of (unstopped c (Code.Shut w n) h) w t.free;
        rests = un-not (is_at_rest (st n)) (not_refused (not (is_at_rest (st n))) Why.NotOpen t.rests);
        class = class.1;
      }

  -- the body of a Step has not ended, that of a Leave has
  told-body : (w : ℕ) → c.stopped ≡ false → Why.no_worker scripts (suite_in c) c.workers state w ≡ None → Why.no_body scripts (suite_in c) c.workers state w ≡ None → BodyTold c bodies w (ended_at w)
  told-body w on less some =
      body-by on w (state.busy w) refl (worker-of w less)
      (un-not (is_some (body_of scripts (suite_in c) c.workers state w)) (not_refused (not (is_some (body_of scripts (suite_in c) c.workers state w))) Why.NoBody some))

  found : (w : ℕ) (e : Bool) (t : BodyTold c bodies w e) → body_of scripts (suite_in c) c.workers state w ≡ Some (stage_of_body t.under.body)
  found w e t = ap (λ (o : Option ℕ). where_some o None (λ n. body_in (state.nodes.status n))) t.busy ∙ t.under.is.stage

  with-end : (w : ℕ) (e : Bool) (t : BodyTold c bodies w (ended_at w)) → is_ended (stage_of_body t.under.body) ≡ e → BodyTold c bodies w e
  with-end w e t h = record { worker = t.worker; node = t.node; busy = t.busy; under = t.under; ended = h }

  pub step-told : (w : ℕ) → refusal_in c (Code.Step w) ≡ None → BodyTold c bodies w false
  step-told w h =
      let t = step_passes scripts (suite_in c) c.workers state w (accepted c (Code.Step w) h) in
      let b = told-body w (unstopped c (Code.Step w) h) t.worker t.body in
      with-end w false b (sym (ap (λ (o : Option Stage). where_some o false is_ended) (found w (ended_at w) b))
      ∙ not_refused (where_some (body_of scripts (suite_in c) c.workers state w) false is_ended) Why.BodyEnded t.going)

  pub leave-told : (w : ℕ) → refusal_in c (Code.Leave w) ≡ None → BodyTold c bodies w true
  leave-told w h =
      let t = leave_passes scripts (suite_in c) c.workers state w (accepted c (Code.Leave w) h) in
      let b = told-body w (unstopped c (Code.Leave w) h) t.worker t.body in
      let over = not_refused (where_some (body_of scripts (suite_in c) c.workers state w) false (λ s. not (is_ended s))) Why.BodyNotEnded t.ended in
      with-end w true b (un-not (is_ended (stage_of_body b.under.body)) (sym (ap (λ (o : Option Stage). where_some o false (λ s. not (is_ended s))) (found w (ended_at w) b)) ∙ over))

  -- the same of the body that a worker was found to have
  pub same-body : (w : ℕ) (e : Bool) (t : BodyTold c bodies w e) (b : Body) → body_at bodies w ≡ Some b → t.under.body ≡ b
  same-body w e t b at = let there = t.under.there in cc

  abbrev pub told_of : (w : ℕ) (e : Bool) (t : BodyTold c bodies w e) (b : Body) → body_at bodies w ≡ Some b → BodyTold c bodies w e
  told_of w e t b at = record {
    worker = t.worker;
    node = t.node;
    busy = t.busy;
    under = record { body = b; there = at; is = subst (λ (j : Body). IsUnderWay c.plan c.world t.node j state.nodes) (same-body w e t b at) t.under.is };
    ended = subst (λ (j : Body). is_ended (stage_of_body j) ≡ e) (same-body w e t b at) t.ended;
  }
