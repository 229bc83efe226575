-- The body that a Step or a Leave is about, as it was found in the list of bodies: where it is, and
-- what the core knows there.
use Rattle.std.proofs.Common.{◌≡◌, ℕ, ◌<◌, List, Option, Some, None, Bool, true, false, length, ap, ◌∙◌, arith}
use Rattle.iso_core.proofs.CoreRefusals.{BodyTold, leave-told, step-told, told_of}
use Rattle.iso_core.proofs.CoreRuns.{reached, unstopped}
use Rattle.iso_core.specs.Cores.{CoreView, IsCore, refusal_in, state_in}
use Rattle.iso_core.specs.FlatMaps.{FlatView}
use Rattle.iso_lifecycle.specs.BodyViews.{kind_of_body, stage_of_body}
use Rattle.iso_lifecycle.specs.ResultViews.{ResultsView}
use Rattle.iso_lifecycle.specs.declared.body.Body.{Body}
use Rattle.iso_model.specs.Bodies.{is_ended}
use Rattle.iso_plan.specs.Planned.{Planned}
use Rattle.iso_settings.specs.Worlds.{Start}
use Rattle.iso_standing.specs.ResultStates.{AtLeave}
use Rattle.iso_standing.specs.Standings.{Standing}
use Rattle.iso_standing.specs.UnderWay.{AreBodiesOf, IsUnderWay, body_at}
use Rattle.iso_standing.specs.declared.event.Event.TheVariants as Code
use Rattle.iso_suites.specs.SuiteStates.{IsReached, RunState}

-- the law of `bodies_stand_as_alone` that the node of a body is one of the plan, and not the root
abbrev pub AreInside : Planned → Type 0
AreInside plan =
    (world : Start) (bodies : List (Option Body)) (s : RunState) (w n : ℕ) → IsReached plan world s → AreBodiesOf plan world bodies s → w < length bodies → s.busy w ≡ Some n
    → (0 < n) × (n < length plan.rows)

pub record BodyFound (c : CoreView) (bodies : List (Option Body)) (w : ℕ) (b : Body) (over : Bool) : Type 0 where
  pub on : c.stopped ≡ false
  pub reached : IsReached c.plan c.world (state_in c)
  pub worker : w < c.workers
  pub less : w < length bodies
  pub at : body_at bodies w ≡ Some b
  pub node : ℕ
  pub busy : (state_in c).busy w ≡ Some node
  pub under : IsUnderWay c.plan c.world node b (state_in c).nodes
  pub ended : is_ended (stage_of_body b) ≡ over
  pub inner : 0 < node
  pub within : node < length c.plan.rows

-- what is told of a worker's body, as of this one
abbrev pub told : (c : CoreView) (bodies : List (Option Body)) (w : ℕ) (b : Body) (over : Bool) → BodyFound c bodies w b over → BodyTold c bodies w over
told c bodies w b over f = record { worker = f.worker; node = f.node; busy = f.busy; under = record { body = b; there = f.at; is = f.under }; ended = f.ended }

module _ (c : CoreView) (v : Standing) (flat : FlatView) (bodies : List (Option Body)) (r : ResultsView) (is : IsCore c v flat bodies r) (w : ℕ) where
  below : (over : Bool) → BodyTold c bodies w over → w < length bodies
  below over t = let fit = is.bodies_fit in let less = t.worker in omega arith

  pub step-less : refusal_in c (Code.Step w) ≡ None → w < length bodies
  step-less h = below false (step-told c v flat bodies r is w h)

  pub leave-less : refusal_in c (Code.Leave w) ≡ None → w < length bodies
  leave-less h = below true (leave-told c v flat bodies r is w h)

  found : (over : Bool) → c.stopped ≡ false → BodyTold c bodies w over → AreInside c.plan → (b : Body) → (w < length bodies → body_at bodies w ≡ Some b) → BodyFound c bodies w b over
  found over on first inside b at =
      let less = below over first in
      let t = told_of c v flat bodies r is w over first b (at less) in
      let got = reached c is.run on in
      let near = inside c.world bodies (state_in c) w t.node got (is.bodies_are on) less t.busy in
      record {
        on = on;
        reached = got;
        worker = t.worker;
        less = less;
        at = at less;
        node = t.node;
        busy = t.busy;
        under = t.under.is;
        ended = t.ended;
        inner = near.0;
        within = near.1;
      }

  -- where contracts see the core so, and nothing refuses the event
  module _ (seen : CoreView) (same : c ≡ seen) where
    pub step-found : refusal_in seen (Code.Step w) ≡ None → AreInside c.plan → (b : Body) → (w < length bodies → body_at bodies w ≡ Some b) → BodyFound c bodies w b false
    step-found e =
        let h : refusal_in c (Code.Step w) ≡ None = ap (λ (d : CoreView). refusal_in d (Code.Step w)) same ∙ e in
        found false (unstopped c (Code.Step w) h) (step-told c v flat bodies r is w h)

    pub leave-found : refusal_in seen (Code.Leave w) ≡ None → AreInside c.plan → (b : Body) → (w < length bodies → body_at bodies w ≡ Some b) → BodyFound c bodies w b true
    leave-found e =
        let h : refusal_in c (Code.Leave w) ≡ None = ap (λ (d : CoreView). refusal_in d (Code.Leave w)) same ∙ e in
        found true (unstopped c (Code.Leave w) h) (leave-told c v flat bodies r is w h)

  -- no body was found where one must be
  pub step-there : refusal_in c (Code.Step w) ≡ None → (w < length bodies → body_at bodies w ≡ None) → ⊥
  step-there h none = let t = step-told c v flat bodies r is w h in let there = t.under.there in let gone = none (step-less h) in cc

  pub leave-there : refusal_in c (Code.Leave w) ≡ None → (w < length bodies → body_at bodies w ≡ None) → ⊥
  leave-there h none = let t = leave-told c v flat bodies r is w h in let there = t.under.there in let gone = none (leave-less h) in cc

  pub at-leave : (b : Body) (f : BodyFound c bodies w b true) → AtLeave c.plan c.world r (state_in c) f.node (stage_of_body b) (kind_of_body b)
  at-leave b f =
      record {
        reached = f.reached;
        results = is.results_are;
        of_plan = is.results_plan;
        of_world = is.results_world;
        inner = f.inner;
        within = f.within;
        body = f.under.stage;
        closing = f.under.kind;
        fits = f.under.fits;
      }
