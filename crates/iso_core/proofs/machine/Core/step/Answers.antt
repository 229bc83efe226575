use Rattle.std.proofs.Common.{◌≡◌, false, Some, None, set, refl, ap, sym, ◌∙◌}
use Rattle.std.proofs.lemmas.List.{get_or_default, length-set}
use Rattle.iso_core.proofs.CoreBodies.{step-there, told}
use Rattle.iso_core.proofs.CoreSteps.{stands-on, stepped, subject-at}
use Rattle.iso_core.proofs.CoreValues.{same-step}
use Rattle.iso_core.proofs.Taking.{Stopped, Took, allowed, step-finds, took, took-stop, view_of}
use Rattle.iso_core.specs.Cores.{state_in, suite_in}
use Rattle.iso_suites.specs.ScriptLanguage.{scripts}
use Rattle.iso_isolation.specs.Suites.{chain}
use Rattle.iso_lifecycle.specs.BodyViews.{stage_of_body, subject_of}
use Rattle.iso_lifecycle.specs.Subjects.{Subject, rights_of_subject}
use Rattle.iso_locks.specs.Flats.{flat}
use Rattle.iso_model.specs.Bodies.{body_step, going}
use Rattle.iso_standing.specs.declared.event.Event.TheVariants as Code
use Rattle.iso_core.proofs.machine.Core.step.Goals as goal
use Rattle.iso_core.proofs.machine.Core.step.Goals.{After-push_reserved, After-stop, After-stop-in-Err-step}

pub unreachable-requires : goal.unreachable-requires
unreachable-requires c =
    let i = c.self.inside in
    let h = allowed i c.self.invariant c.args.self.now c.self.view_is (Code.Step c.args.worker) c.requires in
    absurd (step-there (view_of i) i.standing i.flat i.bodies.items i.results c.self.invariant c.args.worker h (λ less.
    get_or_default i.bodies.items c.args.worker None c.index_mut.result.now less ∙ sym c.index_mut.ensures.value ∙ c.in_default-index_mut.is))

pub step-requires : goal.step-requires
step-requires c =
    let i = c.self.inside in
    let is = c.self.invariant in
    let f = step-finds i is c.args.self.now c.self.view_is c.args.worker c.requires c.bodies_stand_as_alone.ensures.inside c.index_mut.result.now c.in-Some.body c.index_mut.ensures.value
    c.in-Some.is in
    record {
      under_way = f.ended;
      of_map = subject-at i.plan.now i.flat.tray.plan i.world.now i.flat.tray.world f.node (subject_of c.in-Some.body) f.under.subject is.flat_plan is.flat_world;
      stands = stands-on c.in-Some.body (state_in (view_of i)).nodes.flat (flat i.flat.tray) (is.flat_is f.on).now
          (c.bodies_stand_as_alone.ensures.stands i.world.now i.bodies.items (state_in (view_of i)) c.args.worker f.node c.in-Some.body f.reached (is.bodies_are f.on) f.less f.busy f.at);
    }

without_room : (c : After-stop) → Stopped c.self.inside c.args.self.now c.stop.new.self c.self.inside.flat c.self.inside.bodies.items c.reserve.new.self.items
without_room c =
    took-stop c.self.inside c.self.invariant c.args.self.now c.self.view_is c.stop.new.self c.self.inside.flat c.self.inside.bodies.items c.reserve.new.self.items
    c.stop.ensures.same c.stop.ensures.state c.reserve.ensures.items (record { plan = refl; world = refl }) refl

pub invariant_of-self : goal.invariant_of-self
invariant_of-self c = (without_room c).core

pub returns-in-Err-clause-stopped : goal.returns-in-Err-clause-stopped
returns-in-Err-clause-stopped c = (without_room c).view

in_step : (c : After-stop-in-Err-step) → Stopped c.self.inside c.args.self.now c.stop-in-Err-step.new.self c.step.new.self (set c.self.inside.bodies.items c.args.worker (Some c.step.new.body))
    c.reserve.new.self.items
in_step c =
    took-stop c.self.inside c.self.invariant c.args.self.now c.self.view_is c.stop-in-Err-step.new.self c.step.new.self (set c.self.inside.bodies.items c.args.worker (Some c.step.new.body))
    c.reserve.new.self.items
    c.stop-in-Err-step.ensures.same c.stop-in-Err-step.ensures.state c.reserve.ensures.items c.step.ensures.same (length-set c.self.inside.bodies.items c.args.worker (Some c.step.new.body))

pub invariant_of-self-in-Err-step : goal.invariant_of-self-in-Err-step
invariant_of-self-in-Err-step c = (in_step c).core

pub returns-in-Err-step-clause-stopped : goal.returns-in-Err-step-clause-stopped
returns-in-Err-step-clause-stopped c = (in_step c).view

taken : (c : After-push_reserved) → Took c.self.inside c.args.self.now (Code.Step c.args.worker) c.self.inside.standing c.step.new.self
    (set c.self.inside.bodies.items c.args.worker (Some c.step.new.body)) c.self.inside.results c.push_reserved.new.self.items
taken c =
    let i = c.self.inside in
    let is = c.self.invariant in
    let s = state_in (view_of i) in
    let f = step-finds i is c.args.self.now c.self.view_is c.args.worker c.requires c.bodies_stand_as_alone.ensures.inside c.index_mut.result.now c.in-Some.body c.index_mut.ensures.value
    c.in-Some.is in
    let t = told (view_of i) i.bodies.items c.args.worker c.in-Some.body false f in
    let b = stage_of_body c.in-Some.body in
    let stage : stage_of_body c.step.new.body ≡ (scripts.step (chain (suite_in (view_of i)) t.node) b s.nodes.flat).body =
    c.in_default-step.ensures.stage
    ∙ ap (λ (j : Subject). (body_step (rights_of_subject j) (going b (flat i.flat.tray))).stage) t.under.is.subject
    ∙ same-step i.plan.now i.world.now c.nodes_are_a_tree.ensures t.node b (flat i.flat.tray) s.nodes.flat (is.flat_is f.on).now in
    let bodies = c.bodies_follow_events.ensures.step i.world.now i.bodies.items s c.args.worker t.node c.in-Some.body c.step.new.body (is.bodies_are f.on) f.less t.busy f.at
    c.in_default-step.ensures.subject c.in_default-step.ensures.kind stage in
    let results = c.results_follow_nodes.ensures.step i.world.now i.results s.nodes t.node b is.results_are t.under.is.stage in
    took i is c.args.self.now c.self.view_is (Code.Step c.args.worker) c.requires i.standing c.step.new.self (set i.bodies.items c.args.worker (Some c.step.new.body)) i.results
    (stepped (view_of i) i.standing i.flat i.bodies.items i.results is c.args.worker t c.step.new.self (set i.bodies.items c.args.worker (Some c.step.new.body)) c.nodes_are_a_tree.ensures
    (allowed i is c.args.self.now c.self.view_is (Code.Step c.args.worker) c.requires) c.in_default-step.ensures.same c.in_default-step.ensures.state
    (length-set i.bodies.items c.args.worker (Some c.step.new.body)) bodies results)
    c.reserve.new.self.items c.push_reserved.new.self.items c.in_default.ensures.items c.push_reserved.ensures.items

pub invariant_of-self-2 : goal.invariant_of-self-2
invariant_of-self-2 c = (taken c).core

pub returns-clause-taken : goal.returns-clause-taken
returns-clause-taken c = (taken c).view
