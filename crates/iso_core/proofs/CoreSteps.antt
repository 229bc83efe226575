-- What a core stands in after an event that nothing refuses, and after it was stopped.
use Rattle.std.proofs.Common.{◌≡◌, ℕ, ◌<◌, ◌^◌, List, [], ◌∷◌, ◌++◌, Option, Some, None, Bool, true, false, length, replicate, is_some, refl, sym, ap, ◌∙◌, subst, arith}
use Rattle.std.proofs.lemmas.List.{length-replicate}
use Rattle.iso_core.proofs.CoreRefusals.{BodyTold}
use Rattle.iso_suites.proofs.StateRuns.{stopped-after}
use Rattle.iso_core.proofs.CoreRuns.{core_of, goes-on, going-on, next, unstopped}
use Rattle.iso_core.proofs.CoreValues.{left-nodes, looks-step, stepped-nodes}
use Rattle.iso_standing.proofs.Looks.{body-is}
use Rattle.iso_core.specs.Cores.{CoreView, IsCore, refusal_in, state_in, suite_in, with_event}
use Rattle.iso_core.specs.FlatMaps.{FlatView, IsFlatOf, OfSameMap}
use Rattle.iso_standing.specs.Phases.{bare, phase_of}
use Rattle.iso_suites.specs.PlanSuites.{suite_of}
use Rattle.iso_standing.specs.ResultStates.{AreResultsOf}
use Rattle.iso_suites.specs.ScriptLanguage.{Head, scripts}
use Rattle.iso_standing.specs.Standings.{HasBody, LooksLike, OfSame, Standing, after_in, first_in, node_of, nodes_in, phase_at, workers_in}
use Rattle.iso_suites.specs.SuiteStates.{RunNodes, RunState, suite_at}
use Rattle.iso_standing.specs.UnderWay.{AreBodiesOf}
use Rattle.iso_isolation.specs.Events as E
use Rattle.iso_isolation.specs.Events.{after, leaving, stop, where_some}
use Rattle.iso_isolation.specs.States.{body_in, first}
use Rattle.iso_isolation.specs.Suites.{Suite}
use Rattle.iso_lifecycle.specs.ResultViews.{ResultsView, no_results}
use Rattle.iso_lifecycle.specs.BodyViews.{Stands, stage_of_body, subject_of}
use Rattle.iso_lifecycle.specs.Subjects.{Subject, started, subject}
use Rattle.iso_lifecycle.specs.declared.body.Body.{Body}
use Rattle.iso_model.specs.Bodies.{Stage}
use Rattle.iso_model.specs.Resources.{Resources}
use Rattle.iso_model.specs.declared.resource.Resource.{Resource}
use Rattle.iso_plan.specs.Paths.{IsTree}
use Rattle.iso_plan.specs.Planned.{Planned}
use Rattle.iso_plan.specs.RowView.{tree_of}
use Rattle.iso_standing.specs.CodeEvents.{event_of}
use Rattle.iso_standing.specs.declared.event.Event.{Event}
use Rattle.iso_standing.specs.declared.event.Event.TheVariants as Code
use Rattle.iso_settings.specs.Worlds.{Start}

abbrev seen : CoreView → ℕ → List Event → Bool → CoreView
seen c workers items stopped = record { plan = c.plan; world = c.world; workers = workers; events = items; stopped = stopped }

module _ (c : CoreView) (v : Standing) (flat : FlatView) (bodies : List (Option Body)) (r : ResultsView) (is : IsCore c v flat bodies r) where
  -- its parts stand as after an event
  pub record StandsAfter (s : RunState) (u : Standing) (map : FlatView) (now : List (Option Body)) (results : ResultsView) : Type 0 where
    pub standing : OfSame v u
    pub stands : LooksLike u s
    pub of_map : OfSameMap flat map
    pub values : IsFlatOf map s.nodes
    pub fit : length now ≡ length bodies
    pub under_way : AreBodiesOf c.plan c.world now s
    pub plan : results.plan ≡ r.plan
    pub start : results.start ≡ r.start
    pub are : AreResultsOf results s.nodes

  module _ (u : Standing) (map : FlatView) (now : List (Option Body)) (results : ResultsView) where
    pub core-next : (e : Event) → refusal_in c e ≡ None → StandsAfter (after scripts (suite_in c) (state_in c) (event_of e)) u map now results → IsCore (with_event c e) u map now results
    core-next e h a =
        let state = sym (next c e (unstopped c e h)) in
        record {
          run = goes-on c e is.run h;
          few = is.few;
          standing_plan = a.standing.plan ∙ is.standing_plan;
          workers = a.standing.workers ∙ is.workers;
          stands = subst (λ (s : RunState). LooksLike u s) state a.stands;
          flat_plan = a.of_map.plan ∙ is.flat_plan;
          flat_world = a.of_map.world ∙ is.flat_world;
          flat_is = λ on. subst (λ (s : RunState). IsFlatOf map s.nodes) state a.values;
          bodies_fit = a.fit ∙ is.bodies_fit;
          bodies_are = λ on. subst (λ (s : RunState). AreBodiesOf c.plan c.world now s) state a.under_way;
          results_plan = a.plan ∙ is.results_plan;
          results_world = a.start ∙ is.results_world;
          results_are = subst (λ (s : RunState). AreResultsOf results s.nodes) state a.are;
        }

    -- what contracts see of it then
    pub view-next : (e : Event) (items : List Event) → StandsAfter (after scripts (suite_in c) (state_in c) (event_of e)) u map now results → items ≡ c.events ++ e ∷ []
        → core_of c.plan c.world u items ≡ with_event c e
    view-next e items a all =
        ap (λ (m : ℕ). seen c m items u.stopped) (a.standing.workers ∙ is.workers)
        ∙ ap (λ (es : List Event). seen c c.workers es u.stopped) all
        ∙ ap (λ (b : Bool). seen c c.workers (c.events ++ e ∷ []) b) (sym a.stands.stopped ∙ stopped-after (suite_in c) (state_in c) (event_of e))

    pub core-as : (e : Event) (items : List Event) → refusal_in c e ≡ None → StandsAfter (after scripts (suite_in c) (state_in c) (event_of e)) u map now results → items ≡ c.events ++ e ∷ []
        → IsCore (core_of c.plan c.world u items) u map now results
    core-as e items h a all = subst (λ (d : CoreView). IsCore d u map now results) (sym (view-next e items a all)) (core-next e h a)

    -- once it is stopped, its flat map and its bodies don't matter
    pub core-stopped : OfSame v u → ((s : RunState) → LooksLike v s → LooksLike u (stop s)) → OfSameMap flat map → length now ≡ length bodies → IsCore (record c { stopped = true }) u map now r
    core-stopped same stands of_map fit = record {
      run = is.run;
      few = is.few;
      standing_plan = same.plan ∙ is.standing_plan;
      workers = same.workers ∙ is.workers;
      stands = stands (state_in c) is.stands;
      flat_plan = of_map.plan ∙ is.flat_plan;
      flat_world = of_map.world ∙ is.flat_world;
      flat_is = λ on. absurd cc;
      bodies_fit = fit ∙ is.bodies_fit;
      bodies_are = λ on. absurd cc;
      results_plan = is.results_plan;
      results_world = is.results_world;
      results_are = is.results_are;
    }

    pub view-stopped : (items : List Event) → OfSame v u → ((s : RunState) → LooksLike v s → LooksLike u (stop s)) → items ≡ c.events → core_of c.plan c.world u items ≡ record c { stopped = true }
    view-stopped items same stands all =
        ap (λ (m : ℕ). seen c m items u.stopped) (same.workers ∙ is.workers)
        ∙ ap (λ (es : List Event). seen c c.workers es u.stopped) all
        ∙ ap (λ (b : Bool). seen c c.workers c.events b) (sym (stands (state_in c) is.stands).stopped)

    pub stopped-as : (items : List Event) → OfSame v u → ((s : RunState) → LooksLike v s → LooksLike u (stop s)) → items ≡ c.events → OfSameMap flat map → length now ≡ length bodies
        → IsCore (core_of c.plan c.world u items) u map now r
    stopped-as items same stands all of_map fit = subst (λ (d : CoreView). IsCore d u map now r) (sym (view-stopped items same stands all)) (core-stopped same stands of_map fit)

  -- the suites of its standing and of its flat map are its own
  pub looks-next : (u : Standing) (e : E.Event) → LooksLike u (after_in v (started c.world) (state_in c) e) → LooksLike u (after scripts (suite_in c) (state_in c) e)
  looks-next u e h = subst (λ (p : Planned). LooksLike u (after scripts (suite_of (tree_of p) p.settings (started c.world)) (state_in c) e)) is.standing_plan h

  pub suites-are : suite_at flat.tray.plan flat.tray.world ≡ suite_in c
  suites-are = ap (λ (p : Planned). suite_at p flat.tray.world) is.flat_plan ∙ ap (suite_at c.plan) is.flat_world

  -- how a standing takes an Enter or a Shut
  abbrev pub Taken : Standing → E.Event → Type 0
  Taken u e = (start : Resources) (s : RunState) → LooksLike v s → LooksLike u (after_in v start s e)

  module _ (w n : ℕ) (u : Standing) (now : List (Option Body)) where
    -- after an Enter
    pub entered : (map : FlatView) → refusal_in c (Code.Enter w n) ≡ None → OfSame v u → Taken u (E.Enter w n)
        → OfSameMap flat map → ((s : RunNodes) → IsFlatOf flat s → IsFlatOf map (E.entering scripts (suite_at flat.tray.plan flat.tray.world) n s))
        → length now ≡ length bodies → AreBodiesOf c.plan c.world now (after scripts (suite_in c) (state_in c) (E.Enter w n))
        → AreResultsOf r (E.entering scripts (suite_in c) n (state_in c).nodes)
        → StandsAfter (after scripts (suite_in c) (state_in c) (E.Enter w n)) u map now r
    entered map h same taken of_map values fit under are =
        record {
          standing = same;
          stands = looks-next u (E.Enter w n) (taken (started c.world) (state_in c) is.stands);
          of_map = of_map;
          values = subst (λ (x : Suite Head (List ℕ) Resource). IsFlatOf map (E.entering scripts x n (state_in c).nodes)) suites-are
              (values (state_in c).nodes (is.flat_is (unstopped c (Code.Enter w n) h)));
          fit = fit;
          under_way = under;
          plan = refl;
          start = refl;
          are = are;
        }

    -- after a Shut
    pub shut : refusal_in c (Code.Shut w n) ≡ None → OfSame v u → Taken u (E.Shut w n)
        → IsFlatOf flat (E.shutting scripts (suite_in c) n (state_in c).nodes)
        → length now ≡ length bodies → AreBodiesOf c.plan c.world now (after scripts (suite_in c) (state_in c) (E.Shut w n))
        → AreResultsOf r (E.shutting scripts (suite_in c) n (state_in c).nodes)
        → StandsAfter (after scripts (suite_in c) (state_in c) (E.Shut w n)) u flat now r
    shut h same taken values fit under are =
        record {
          standing = same;
          stands = looks-next u (E.Shut w n) (taken (started c.world) (state_in c) is.stands);
          of_map = record { plan = refl; world = refl };
          values = values;
          fit = fit;
          under_way = under;
          plan = refl;
          start = refl;
          are = are;
        }

  -- after a Step
  pub stepped : (w : ℕ) (t : BodyTold c bodies w false) (map : FlatView) (now : List (Option Body)) → IsTree (tree_of c.plan) → refusal_in c (Code.Step w) ≡ None
      → OfSameMap flat map
      → ((s : RunNodes) → IsFlatOf flat s → IsFlatOf map (E.stepping scripts (suite_at flat.tray.plan flat.tray.world) (subject_of t.under.body).node s (stage_of_body t.under.body)))
      → length now ≡ length bodies → AreBodiesOf c.plan c.world now (after scripts (suite_in c) (state_in c) (E.Step w))
      → AreResultsOf r (E.stepping scripts (suite_in c) t.node (state_in c).nodes (stage_of_body t.under.body))
      → StandsAfter (after scripts (suite_in c) (state_in c) (E.Step w)) v map now r
  stepped w t map now tree h of_map values fit under are =
      let s = state_in c in
      let b = stage_of_body t.under.body in
      let nodes = stepped-nodes c.plan c.world s w t.node b t.busy t.under.is.stage in
      let at : (subject_of t.under.body).node ≡ t.node = ap (λ (j : Subject). j.node) t.under.is.subject in
      let on = unstopped c (Code.Step w) h in
      record {
        standing = record { plan = refl; workers = refl };
        stands = looks-step c.plan c.world v s w t.node b t.busy t.under.is.stage is.stands;
        of_map = of_map;
        values = subst (λ (k : RunNodes). IsFlatOf map k) (sym nodes)
            (subst (λ (n : ℕ). IsFlatOf map (E.stepping scripts (suite_in c) n s.nodes b)) at
            (subst (λ (x : Suite Head (List ℕ) Resource). IsFlatOf map (E.stepping scripts x (subject_of t.under.body).node s.nodes b)) suites-are (values s.nodes (is.flat_is on))));
        fit = fit;
        under_way = under;
        plan = refl;
        start = refl;
        are = subst (λ (k : RunNodes). AreResultsOf r k) (sym nodes) are;
      }

  -- after a Leave
  pub left : (w : ℕ) (t : BodyTold c bodies w true) (u : Standing) (map : FlatView) (now : List (Option Body)) (results : ResultsView) → refusal_in c (Code.Leave w) ≡ None
      → OfSame v u → LooksLike u (after_in v (started c.world) (state_in c) (E.Leave w))
      → OfSameMap flat map → IsFlatOf map (leaving scripts (suite_in c) t.node (state_in c).nodes ((state_in c).nodes.status t.node))
      → length now ≡ length bodies → AreBodiesOf c.plan c.world now (after scripts (suite_in c) (state_in c) (E.Leave w))
      → results.plan ≡ r.plan → results.start ≡ r.start
      → AreResultsOf results (leaving scripts (suite_in c) t.node (state_in c).nodes ((state_in c).nodes.status t.node))
      → StandsAfter (after scripts (suite_in c) (state_in c) (E.Leave w)) u map now results
  left w t u map now results h same looks of_map values fit under plan start are =
      let nodes = left-nodes c.plan c.world (state_in c) w t.node t.busy in
      record {
        standing = same;
        stands = looks-next u (E.Leave w) looks;
        of_map = of_map;
        values = subst (λ (k : RunNodes). IsFlatOf map k) (sym nodes) values;
        fit = fit;
        under_way = under;
        plan = plan;
        start = start;
        are = subst (λ (k : RunNodes). AreResultsOf results k) (sym nodes) are;
      }

  -- the standing has the body of a Leave
  pub has-body : (w : ℕ) (t : BodyTold c bodies w true) → t.node < length c.plan.rows → HasBody v w
  has-body w t inside =
      let workers = is.workers in
      let rows = ap (λ (p : Planned). length p.rows) is.standing_plan in
      let less : w < workers_in v = let t2 = t.worker in omega arith in
      let within : t.node < nodes_in v = omega arith in
      let busy : node_of v w ≡ Some t.node = sym (is.stands.bodies w less) ∙ t.busy in
      let phase : bare (phase_at v t.node) ≡ bare (phase_of ((state_in c).nodes.status t.node)) = ap bare (sym (is.stands.phases t.node within)) in
      record {
        worker = less;
        body = ap (λ (o : Option ℕ). is_some (where_some o None (λ n. body_in (bare (phase_at v n))))) busy
            ∙ ap (λ (q : _). is_some (body_in q)) phase
            ∙ sym (body-is ((state_in c).nodes.status t.node))
            ∙ ap (λ (o : Option Stage). is_some o) t.under.is.stage;
      }

-- a new core
pub core-begins : (plan : Planned) (world : Start) (workers : ℕ) (v : Standing) (flat : FlatView) (bodies : List (Option Body)) (r : ResultsView)
    → workers < 2 ^ 32 → v.plan ≡ plan → workers_in v ≡ workers → ((start : Resources) → LooksLike v (first_in v start))
    → flat.tray.plan ≡ plan → flat.tray.world ≡ world → IsFlatOf flat (first scripts (suite_at plan world)).nodes
    → bodies ≡ replicate workers None → AreBodiesOf plan world (replicate workers None) (first scripts (suite_at plan world))
    → r ≡ no_results plan world → AreResultsOf (no_results plan world) (first scripts (suite_at plan world)).nodes
    → IsCore (core_of plan world v []) v flat bodies r
core-begins plan world workers v flat bodies r small of_plan count stands map_plan map_world values none under empty are =
    let s = first scripts (suite_at plan world) in
    let like : LooksLike v s = subst (λ (p : Planned). LooksLike v (first scripts (suite_of (tree_of p) p.settings (started world)))) of_plan (stands (started world)) in
    let state : state_in (core_of plan world v []) ≡ s = going-on (core_of plan world v []) (sym like.stopped) in
    record {
      run = refl;
      few = subst (λ (m : ℕ). m < 2 ^ 32) (sym count) small;
      standing_plan = of_plan;
      workers = refl;
      stands = subst (λ (t : RunState). LooksLike v t) (sym state) like;
      flat_plan = map_plan;
      flat_world = map_world;
      flat_is = λ on. subst (λ (t : RunState). IsFlatOf flat t.nodes) (sym state) values;
      bodies_fit = ap (λ (bs : List (Option Body)). length bs) none ∙ length-replicate workers None ∙ sym count;
      bodies_are = λ on. subst (λ (t : RunState). AreBodiesOf plan world bodies t) (sym state) (subst (λ (bs : List (Option Body)). AreBodiesOf plan world bs s) (sym none) under);
      results_plan = ap (λ (q : ResultsView). q.plan) empty;
      results_world = ap (λ (q : ResultsView). q.start) empty;
      results_are = subst (λ (q : ResultsView). AreResultsOf q s.nodes) (sym empty) are;
    }

-- a subject told by the plan and the world of a flat map
pub subject-at : (plan p : Planned) (world q : Start) (n : ℕ) (s : Subject) → s ≡ subject plan world n → p ≡ plan → q ≡ world → s ≡ subject p q s.node
subject-at plan p world q n s e pe qe =
    e ∙ ap (λ (j : Planned). subject j world n) (sym pe) ∙ ap (λ (j : Start). subject p j n) (sym qe) ∙ ap (subject p q) (sym (ap (λ (j : Subject). j.node) e))

-- where resources are equal, a body stands on both
pub stands-on : (b : Body) (m f : Resources) → ((k : List ℕ) → f k ≡ m k) → Stands b m → Stands b f
stands-on b m f same t = record { steps = t.steps; stage = t.stage; resources = record { same = λ k r. same k ∙ t.resources.same k r } }
