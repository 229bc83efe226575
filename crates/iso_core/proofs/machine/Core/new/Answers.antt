use Rattle.std.proofs.Common.{ℕ, ◌<◌, ◌^◌, Bool, List, ap, sym, ◌∙◌, subst, arith}
use Rattle.iso_core.proofs.CoreRuns.{core_of}
use Rattle.iso_core.proofs.CoreSteps.{core-begins}
use Rattle.iso_core.specs.Cores.{IsCore, new_core}
use Rattle.iso_lifecycle.specs.ResultViews.{no_results}
use Rattle.iso_lifecycle.specs.Subjects.{started}
use Rattle.iso_standing.specs.declared.event.Event.{Event}
use Rattle.iso_settings.specs.Worlds.{Start}
use Rattle.iso_core.proofs.machine.Core.new.Goals as goal

pub invariant_of-result : goal.invariant_of-result
invariant_of-result c =
    let plan = c.args.plan.now in
    let world = c.args.world.now in
    let v = c.in_ok-new.field-0 in
    let flat = c.in_ok-new-2.field-0 in
    let bodies = c.in_ok-no_bodies.field-0.items in
    let results = c.in_ok-new-3.field-0 in
    let small : c.args.workers < 2 ^ 32 = let range = c.ranges.workers in omega arith in
    subst (λ (es : List Event). IsCore (core_of plan world v es) v flat bodies results) (sym c.new-4.ensures.items)
    (core-begins plan world c.args.workers v flat bodies results small c.in_ok-new.ensures.plan c.in_ok-new.ensures.workers c.in_ok-new.ensures.state
    c.in_ok-new-2.ensures.plan c.in_ok-new-2.ensures.world c.in_ok-new-2.ensures.state c.in_ok-no_bodies.ensures (c.bodies_follow_events.ensures.begin world c.args.workers)
    (c.in_ok-new-3.ensures ∙ ap (λ (s : Start). no_results plan s) c.of.ensures) (c.results_follow_nodes.ensures.begin world))

pub returns : goal.returns
returns c =
    let plan = c.args.plan.now in
    let world = c.args.world.now in
    let v = c.in_ok-new.field-0 in
    ap (λ (m : ℕ). record { plan = plan; world = world; workers = m; events = c.new-4.result.items; stopped = v.stopped }) c.in_ok-new.ensures.workers
    ∙ ap (λ (es : List Event). record { plan = plan; world = world; workers = c.args.workers; events = es; stopped = v.stopped }) c.new-4.ensures.items
    ∙ ap (λ (b : Bool). record (new_core plan world c.args.workers) { stopped = b }) (sym (c.in_ok-new.ensures.state (started world)).stopped)
