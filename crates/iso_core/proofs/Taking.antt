-- How a core takes an event that nothing refuses, told of its parts: `seen` is what contracts see
-- of it.
use Rattle.std.proofs.Common.{◌≡◌, ℕ, ◌<◌, List, [], ◌∷◌, ◌++◌, Option, Some, None, true, false, get_or, length, set, sym, ap, ◌∙◌, subst, arith}
use Rattle.std.proofs.lemmas.List.{get_or_default, length-set}
use Rattle.iso_core.proofs.CoreBodies.{AreInside, BodyFound, leave-found, step-found}
use Rattle.iso_core.proofs.CoreRefusals.{EnterTold, enter-told, shut-told}
use Rattle.iso_core.proofs.CoreRuns.{core_of, unstopped}
use Rattle.iso_core.proofs.CoreSteps.{StandsAfter, Taken, core-as, entered, shut, stopped-as, view-next, view-stopped}
use Rattle.iso_core.proofs.CoreValues.{flat-shut}
use Rattle.iso_core.specs.Cores.{CoreView, IsCore, refusal_in, state_in, suite_in, with_event}
use Rattle.iso_core.specs.FlatMaps.{FlatView, IsFlatOf, OfSameMap}
use Rattle.iso_core.specs.declared.machine.Core.TheInside.{Inside}
use Rattle.iso_isolation.specs.Events as E
use Rattle.iso_isolation.specs.Events.{after, stop}
use Rattle.iso_isolation.specs.States.{is_at_rest, is_waiting}
use Rattle.iso_lifecycle.specs.ResultViews.{ResultsView}
use Rattle.iso_lifecycle.specs.declared.body.Body.{Body}
use Rattle.iso_standing.specs.CodeEvents.{event_of}
use Rattle.iso_standing.specs.ResultStates.{AreResultsOf}
use Rattle.iso_standing.specs.Standings.{LooksLike, OfSame, Standing}
use Rattle.iso_standing.specs.UnderWay.{AreBodiesOf, IsUnderWay}
use Rattle.iso_standing.specs.declared.event.Event.{Event}
use Rattle.iso_standing.specs.declared.event.Event.TheVariants as Code
use Rattle.iso_suites.specs.ScriptLanguage.{scripts}
use Rattle.iso_suites.specs.SuiteStates.{RunNodes, RunState, suite_at}

-- the view of the parts, and that they are a core
abbrev pub view_of : Inside → CoreView
view_of i = core_of i.plan.now i.world.now i.standing i.events.items

abbrev pub AreCore : Inside → Type 0
AreCore i = IsCore (view_of i) i.standing i.flat i.bodies.items i.results

-- these parts are the core with one event more, and these are it stopped
pub record Took (i : Inside) (seen : CoreView) (e : Event) (u : Standing) (map : FlatView) (now : List (Option Body)) (results : ResultsView) (items : List Event) : Type 0 where
  pub core : IsCore (core_of i.plan.now i.world.now u items) u map now results
  pub view : core_of i.plan.now i.world.now u items ≡ with_event seen e

pub record Stopped (i : Inside) (seen : CoreView) (u : Standing) (map : FlatView) (now : List (Option Body)) (items : List Event) : Type 0 where
  pub core : IsCore (core_of i.plan.now i.world.now u items) u map now i.results
  pub view : core_of i.plan.now i.world.now u items ≡ record seen { stopped = true }

module _ (i : Inside) (is : AreCore i) (seen : CoreView) (same : view_of i ≡ seen) where
  abbrev state : RunState
  state = state_in (view_of i)

  pub allowed : (e : Event) → refusal_in seen e ≡ None → refusal_in (view_of i) e ≡ None
  allowed e h = ap (λ (v : CoreView). refusal_in v e) same ∙ h

  pub enter-tells : (w n : ℕ) → refusal_in seen (Code.Enter w n) ≡ None → EnterTold (view_of i) w n
  enter-tells w n h = enter-told (view_of i) i.standing i.flat i.bodies.items i.results is w n (allowed (Code.Enter w n) h)

  -- the body that a Step or a Leave is about, which was looked for in the list
  pub step-finds : (w : ℕ) → refusal_in seen (Code.Step w) ≡ None → AreInside i.plan.now → (o : Option Body) (b : Body)
      → o ≡ get_or i.bodies.items w o → o ≡ Some b → BodyFound (view_of i) i.bodies.items w b false
  step-finds w h inside o b at found =
      step-found (view_of i) i.standing i.flat i.bodies.items i.results is w seen same h inside b (λ less. get_or_default i.bodies.items w None o less ∙ sym at ∙ found)

  pub leave-finds : (w : ℕ) → refusal_in seen (Code.Leave w) ≡ None → AreInside i.plan.now → (o : Option Body) (b : Body)
      → o ≡ get_or i.bodies.items w o → o ≡ Some b → BodyFound (view_of i) i.bodies.items w b true
  leave-finds w h inside o b at found =
      leave-found (view_of i) i.standing i.flat i.bodies.items i.results is w seen same h inside b (λ less. get_or_default i.bodies.items w None o less ∙ sym at ∙ found)

  -- the parts stand as after the event, which is put after the others
  pub took : (e : Event) → refusal_in seen e ≡ None → (u : Standing) (map : FlatView) (now : List (Option Body)) (results : ResultsView)
      → StandsAfter (view_of i) i.standing i.flat i.bodies.items i.results is (after scripts (suite_in (view_of i)) state (event_of e)) u map now results
      → (room items : List Event) → room ≡ i.events.items → items ≡ room ++ e ∷ [] → Took i seen e u map now results items
  took e h u map now results stands room items kept pushed =
      let added : items ≡ i.events.items ++ e ∷ [] = pushed ∙ ap (λ (es : List Event). es ++ e ∷ []) kept in
      record {
        core = core-as (view_of i) i.standing i.flat i.bodies.items i.results is u map now results e items (allowed e h) stands added;
        view = view-next (view_of i) i.standing i.flat i.bodies.items i.results is u map now results e items stands added ∙ ap (λ (v : CoreView). with_event v e) same;
      }

  pub took-stop : (u : Standing) (map : FlatView) (now : List (Option Body)) (items : List Event) → OfSame i.standing u → ((s : RunState) → LooksLike i.standing s → LooksLike u (stop s))
      → items ≡ i.events.items → OfSameMap i.flat map → length now ≡ length i.bodies.items → Stopped i seen u map now items
  took-stop u map now items of stands kept of_map fit =
      record {
        core = stopped-as (view_of i) i.standing i.flat i.bodies.items i.results is u map now i.results items of stands kept of_map fit;
        view = view-stopped (view_of i) i.standing i.flat i.bodies.items i.results is u map now i.results items of stands kept ∙ ap (λ (v : CoreView). record v { stopped = true }) same;
      }

  module _ (w n : ℕ) (u : Standing) (b : Body) where
    abbrev given : List (Option Body)
    given = set i.bodies.items w (Some b)

    pub took-enter : refusal_in seen (Code.Enter w n) ≡ None → (map : FlatView) (room items : List Event) → OfSame i.standing u
        → Taken (view_of i) i.standing i.flat i.bodies.items i.results is u (E.Enter w n)
        → OfSameMap i.flat map → ((s : RunNodes) → IsFlatOf i.flat s → IsFlatOf map (E.entering scripts (suite_at i.flat.tray.plan i.flat.tray.world) n s))
        → IsUnderWay seen.plan seen.world n b (E.entering scripts (suite_in seen) n (state_in seen).nodes)
        → (AreBodiesOf i.plan.now i.world.now i.bodies.items state → w < length i.bodies.items → state.busy w ≡ None → is_waiting (state.nodes.status n) ≡ true
        → IsUnderWay i.plan.now i.world.now n b (E.entering scripts (suite_in (view_of i)) n state.nodes)
        → AreBodiesOf i.plan.now i.world.now given (after scripts (suite_in (view_of i)) state (E.Enter w n)))
        → (AreResultsOf i.results state.nodes → is_waiting (state.nodes.status n) ≡ true → AreResultsOf i.results (E.entering scripts (suite_in (view_of i)) n state.nodes))
        → room ≡ i.events.items → items ≡ room ++ Code.Enter w n ∷ [] → Took i seen (Code.Enter w n) u map given i.results items
    took-enter h map room items of taken of_map values under bodies results =
        let c = view_of i in
        let here = allowed (Code.Enter w n) h in
        let t = enter-tells w n h in
        let less : w < length i.bodies.items = let fit = is.bodies_fit in let below = t.worker in omega arith in
        let body : IsUnderWay i.plan.now i.world.now n b (E.entering scripts (suite_in c) n state.nodes) =
        subst (λ (v : CoreView). IsUnderWay v.plan v.world n b (E.entering scripts (suite_in v) n (state_in v).nodes)) (sym same) under in
        took (Code.Enter w n) h u map given i.results
        (entered c i.standing i.flat i.bodies.items i.results is w n u given map here of taken of_map values (length-set i.bodies.items w (Some b))
        (bodies (is.bodies_are (unstopped c (Code.Enter w n) here)) less t.free t.waiting body) (results is.results_are t.waiting))
        room items

    pub took-shut : refusal_in seen (Code.Shut w n) ≡ None → (room items : List Event) → OfSame i.standing u → Taken (view_of i) i.standing i.flat i.bodies.items i.results is u (E.Shut w n)
        → IsUnderWay seen.plan seen.world n b (E.shutting scripts (suite_in seen) n (state_in seen).nodes)
        → (AreBodiesOf i.plan.now i.world.now i.bodies.items state → w < length i.bodies.items → state.busy w ≡ None → is_at_rest (state.nodes.status n) ≡ true
        → IsUnderWay i.plan.now i.world.now n b (E.shutting scripts (suite_in (view_of i)) n state.nodes)
        → AreBodiesOf i.plan.now i.world.now given (after scripts (suite_in (view_of i)) state (E.Shut w n)))
        → (AreResultsOf i.results state.nodes → is_at_rest (state.nodes.status n) ≡ true → AreResultsOf i.results (E.shutting scripts (suite_in (view_of i)) n state.nodes))
        → room ≡ i.events.items → items ≡ room ++ Code.Shut w n ∷ [] → Took i seen (Code.Shut w n) u i.flat given i.results items
    took-shut h room items of taken under bodies results =
        let c = view_of i in
        let here = allowed (Code.Shut w n) h in
        let on = unstopped c (Code.Shut w n) here in
        let t = shut-told c i.standing i.flat i.bodies.items i.results is w n here in
        let less : w < length i.bodies.items = let fit = is.bodies_fit in let below = t.worker in omega arith in
        took (Code.Shut w n) h u i.flat given i.results
        (shut c i.standing i.flat i.bodies.items i.results is w n u given here of taken (flat-shut i.plan.now i.world.now i.flat n state.nodes t.rests (is.flat_is on))
        (length-set i.bodies.items w (Some b))
        (bodies (is.bodies_are on) less t.free t.rests
        (subst (λ (v : CoreView). IsUnderWay v.plan v.world n b (E.shutting scripts (suite_in v) n (state_in v).nodes)) (sym same) under))
        (results is.results_are t.rests))
        room items
