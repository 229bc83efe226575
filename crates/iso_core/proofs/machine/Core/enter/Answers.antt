use Rattle.std.proofs.Common.{◌<◌, List, Option, Some, length, set, sym, subst}
use Rattle.iso_core.proofs.CoreRuns.{core_of, reached, reached-next, unstopped}
use Rattle.iso_core.proofs.Taking.{Took, allowed, enter-tells, took-enter, view_of}
use Rattle.iso_core.specs.Cores.{IsCore, state_in}
use Rattle.iso_lifecycle.specs.declared.body.Body.{Body}
use Rattle.iso_plan.specs.Planned.{Planned}
use Rattle.iso_standing.specs.declared.event.Event.TheVariants as Code
use Rattle.iso_core.proofs.machine.Core.enter.Goals as goal
use Rattle.iso_core.proofs.machine.Core.enter.Goals.{After-push_reserved}

pub enter_values-requires-clause-innermost : goal.enter_values-requires-clause-innermost
enter_values-requires-clause-innermost c =
    let i = c.self.inside in
    let is = c.self.invariant in
    let h = allowed i is c.args.self.now c.self.view_is (Code.Enter c.args.worker c.args.node) c.requires in
    let on = unstopped (view_of i) (Code.Enter c.args.worker c.args.node) h in
    c.entered_nodes_are_apart.ensures.enter i.world.now i.flat (state_in (view_of i)) c.args.worker c.args.node (reached (view_of i) is.run on) is.flat_plan (is.flat_is on)
    (reached-next (view_of i) (Code.Enter c.args.worker c.args.node) is.run h) (enter-tells i is c.args.self.now c.self.view_is c.args.worker c.args.node c.requires).waiting

pub enter-requires : goal.enter-requires
enter-requires c =
    let t = enter-tells c.self.inside c.self.invariant c.args.self.now c.self.view_is c.args.worker c.args.node c.requires in
    record { worker = t.worker; node = subst (λ (p : Planned). c.args.node < length p.rows) (sym c.self.invariant.standing_plan) t.inside; inner = t.inner }

taken : (c : After-push_reserved) → Took c.self.inside c.args.self.now (Code.Enter c.args.worker c.args.node) c.enter.new.self c.enter_values.new.flat
    (set c.self.inside.bodies.items c.args.worker (Some c.in_ok-body.body)) c.self.inside.results c.push_reserved.new.self.items
taken c =
    took-enter c.self.inside c.self.invariant c.args.self.now c.self.view_is c.args.worker c.args.node c.enter.new.self c.in_ok-body.body c.requires c.enter_values.new.flat
    c.enter_values.new.events.items c.push_reserved.new.self.items
    c.enter.ensures.same c.enter.ensures.state c.enter_values.ensures.same c.in_ok-enter_values.ensures.state c.in_ok-body.ensures
    (c.bodies_follow_events.ensures.enter c.self.inside.world.now _ _ _ _ _) (c.results_follow_nodes.ensures.enter c.self.inside.world.now _ _ _) c.enter_values.ensures.events
    c.push_reserved.ensures.items

pub invariant_of-self-2 : goal.invariant_of-self-2
invariant_of-self-2 c =
    let i = c.self.inside in
    subst (λ (bodies : List (Option Body)). IsCore (core_of i.plan.now i.world.now c.enter.new.self c.push_reserved.new.self.items) c.enter.new.self c.enter_values.new.flat bodies i.results)
    (sym c.give_body.ensures) (taken c).core

pub returns-clause-taken : goal.returns-clause-taken
returns-clause-taken c = (taken c).view
