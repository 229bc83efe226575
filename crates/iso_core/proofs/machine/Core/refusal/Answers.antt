use Rattle.std.proofs.Common.{◌≡◌, ℕ, List, Option, true, false, Bool, ap, sym, ◌∙◌, subst}
use Rattle.iso_core.proofs.CoreRefusals.{ended_at, refusal-is, tells-end}
use Rattle.iso_core.proofs.CoreRuns.{core_of, refuses-all}
use Rattle.iso_standing.specs.CodeEvents.{worker_of}
use Rattle.iso_core.specs.Cores.{CoreView, refusal_in, state_in}
use Rattle.iso_standing.specs.Standings.{TellsEnd}
use Rattle.iso_standing.specs.UnderWay.{body_at}
use Rattle.iso_isolation.specs.Events.{where_some}
use Rattle.iso_lifecycle.specs.BodyViews.{stage_of_body}
use Rattle.iso_lifecycle.specs.declared.body.Body.{Body}
use Rattle.iso_model.specs.Bodies.{is_ended}
use Rattle.iso_lifecycle.specs.Subjects.{started}
use Rattle.iso_core.proofs.machine.Core.refusal.Goals as goal

pub returns-then-is_stopped : goal.returns-then-is_stopped
returns-then-is_stopped c =
    let stop : c.args.self.now.stopped ≡ true = ap (λ (v : CoreView). v.stopped) (sym c.self.view_is) ∙ sym c.is_stopped.ensures ∙ c.if-is_stopped.true in
    sym (refuses-all c.args.self.now c.args.event stop)

pub returns : goal.returns
returns c =
    let i = c.self.inside in
    let old : CoreView = core_of i.plan.now i.world.now i.standing i.events.items in
    let on : old.stopped ≡ false = sym c.is_stopped.ensures ∙ c.if-is_stopped.false in
    let ended : c.has_ended-ended.result ≡ ended_at old i.standing i.flat i.bodies.items i.results c.self.invariant (worker_of c.args.event) =
    c.has_ended-ended.ensures
    ∙ ap (λ (bs : List (Option Body)). where_some (body_at bs c.worker_of.result) false (λ b. is_ended (stage_of_body b))) c.deref.ensures.value
    ∙ ap (λ (w : ℕ). where_some (body_at i.bodies.items w) false (λ b. is_ended (stage_of_body b))) c.worker_of.ensures in
    sym (c.refusal.ensures.kind (started old.world) (state_in old) c.self.invariant.stands
    (subst (λ (b : Bool). TellsEnd i.standing (state_in old) c.args.event b) (sym ended) (tells-end old i.standing i.flat i.bodies.items i.results c.self.invariant on c.args.event)))
    ∙ refusal-is old i.standing i.flat i.bodies.items i.results c.self.invariant on c.args.event
    ∙ ap (λ (v : CoreView). refusal_in v c.args.event) c.self.view_is
