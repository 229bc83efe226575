use Rattle.std.proofs.Common.{List, Option, Some, set, sym, subst}
use Rattle.iso_core.proofs.CoreRuns.{core_of}
use Rattle.iso_core.proofs.Taking.{Took, took-shut}
use Rattle.iso_core.specs.Cores.{IsCore}
use Rattle.iso_lifecycle.specs.declared.body.Body.{Body}
use Rattle.iso_standing.specs.declared.event.Event.TheVariants as Code
use Rattle.iso_core.proofs.machine.Core.shut.Goals as goal
use Rattle.iso_core.proofs.machine.Core.shut.Goals.{After-push_reserved}

taken : (c : After-push_reserved) → Took c.self.inside c.args.self.now (Code.Shut c.args.worker c.args.node) c.shut.new.self c.self.inside.flat
    (set c.self.inside.bodies.items c.args.worker (Some c.in_ok-body.body)) c.self.inside.results c.push_reserved.new.self.items
taken c =
    took-shut c.self.inside c.self.invariant c.args.self.now c.self.view_is c.args.worker c.args.node c.shut.new.self c.in_ok-body.body c.requires c.reserve.new.self.items
    c.push_reserved.new.self.items
    c.shut.ensures.same c.shut.ensures.state c.in_ok-body.ensures
    (c.bodies_follow_events.ensures.shut c.self.inside.world.now _ _ _ _ _) (c.results_follow_nodes.ensures.shut c.self.inside.world.now _ _ _) c.in_ok-reserve.ensures.items
    c.push_reserved.ensures.items

pub invariant_of-self-2 : goal.invariant_of-self-2
invariant_of-self-2 c =
    let i = c.self.inside in
    subst (λ (bodies : List (Option Body)). IsCore (core_of i.plan.now i.world.now c.shut.new.self c.push_reserved.new.self.items) c.shut.new.self i.flat bodies i.results)
    (sym c.give_body.ensures) (taken c).core

pub returns-clause-taken : goal.returns-clause-taken
returns-clause-taken c = (taken c).view
