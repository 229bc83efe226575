use Rattle.std.proofs.Common.{◌≡◌, ℕ, ◌<◌, List, Option, Some, None, true, false, not, is_some, length, set, refl, ap, ap₂, sym, ◌∙◌, subst}
use Rattle.std.proofs.lemmas.List.{get_or_default, length-set}
use Rattle.iso_core.proofs.CoreBodies.{at-leave, leave-there, told}
use Rattle.iso_core.proofs.CoreSteps.{StandsAfter, has-body, left, suites-are}
use Rattle.iso_core.proofs.CoreValues.{first-kind}
use Rattle.iso_core.proofs.Taking.{Took, allowed, leave-finds, took, view_of}
use Rattle.iso_core.specs.Cores.{state_in, suite_in}
use Rattle.iso_core.specs.FlatMaps.{IsFlatOf, IsInnermost, mark_at}
use Rattle.iso_suites.specs.PlanSuites.{head_of, suite_of}
use Rattle.iso_standing.specs.ResultStates.{AreResultsOf, AtLeave}
use Rattle.iso_suites.specs.ScriptLanguage.{Head, is_of_test, scripts}
use Rattle.iso_standing.specs.Standings.{EndsWellAs}
use Rattle.iso_standing.specs.UnderWay.{AreBodiesOf, is_after_all}
use Rattle.iso_isolation.proofs.Statuses.{body_held}
use Rattle.iso_isolation.specs.Events as E
use Rattle.iso_isolation.specs.Events.{after, ended_well, leaving}
use Rattle.iso_isolation.specs.States.{Begun, body_in, is_closing}
use Rattle.iso_isolation.specs.Suites.{Suite}
use Rattle.iso_lifecycle.specs.BodyViews.{kind_of_body, stage_of_body}
use Rattle.iso_lifecycle.specs.ResultViews.{CanPut, ResultsView, is_barring, with_done_of}
use Rattle.iso_lifecycle.specs.Subjects.{Subject, is_kind_of, started, subject}
use Rattle.iso_lifecycle.specs.declared.body.Body.{Body}
use Rattle.iso_lifecycle.specs.declared.kind.BodyKind.{BodyKind}
use Rattle.iso_lifecycle.specs.declared.kind.BodyKind.TheVariants as K
use Rattle.iso_model.specs.Bodies.{Stage}
use Rattle.iso_model.specs.declared.resource.Resource.{Resource}
use Rattle.iso_plan.specs.Paths.{row_at}
use Rattle.iso_plan.specs.Planned.{Planned}
use Rattle.iso_plan.specs.RowView.{tree_of}
use Rattle.iso_standing.specs.declared.event.Event.TheVariants as Code
use Rattle.iso_core.proofs.machine.Core.leave.Goals as goal
use Rattle.iso_core.proofs.machine.Core.leave.Goals.{After-push_reserved}

-- what is put changes neither plan nor start
done-plan : (k : BodyKind) (n : ℕ) (r : ResultsView) → (with_done_of k n r).plan ≡ r.plan
done-plan K.BeforeAll n r = refl
done-plan K.Test n r = refl
done-plan K.AfterAll n r = refl

done-start : (k : BodyKind) (n : ℕ) (r : ResultsView) → (with_done_of k n r).start ≡ r.start
done-start K.BeforeAll n r = refl
done-start K.Test n r = refl
done-start K.AfterAll n r = refl

pub unreachable-requires : goal.unreachable-requires
unreachable-requires c =
    let i = c.self.inside in
    let h = allowed i c.self.invariant c.args.self.now c.self.view_is (Code.Leave c.args.worker) c.requires in
    absurd (leave-there (view_of i) i.standing i.flat i.bodies.items i.results c.self.invariant c.args.worker h (λ less.
    get_or_default i.bodies.items c.args.worker None c.index_mut.result.now less ∙ sym c.index_mut.ensures.value ∙ sym c.take.ensures.value ∙ c.in_default.is))

pub into_done-done-requires : goal.into_done-done-requires
into_done-done-requires c =
    (leave-finds c.self.inside c.self.invariant c.args.self.now c.self.view_is c.args.worker c.requires c.bodies_stand_as_alone.ensures.inside c.index_mut.result.now c.in-Some.body
    c.index_mut.ensures.value (sym c.take.ensures.value ∙ c.in-Some.is)).ended

pub put-requires : goal.put-requires
put-requires c =
    let i = c.self.inside in
    let is = c.self.invariant in
    let f = leave-finds i is c.args.self.now c.self.view_is c.args.worker c.requires c.bodies_stand_as_alone.ensures.inside c.index_mut.result.now c.in-Some.body c.index_mut.ensures.value
    (sym c.take.ensures.value ∙ c.in-Some.is) in
    subst (λ (s : Subject). CanPut (record { subject = s; kind = c.into_done-done.result.kind }) i.results) (sym (c.into_done-done.ensures.subject ∙ f.under.subject))
    (subst (λ (k : BodyKind). CanPut (record { subject = subject i.plan.now i.world.now f.node; kind = k }) i.results) (sym c.into_done-done.ensures.kind)
    (c.results_follow_leaves.ensures.put i.world.now i.results (state_in (view_of i)) f.node (stage_of_body c.in-Some.body) (kind_of_body c.in-Some.body)
    (at-leave (view_of i) i.standing i.flat i.bodies.items i.results is c.args.worker c.in-Some.body f)))

pub leave_values-requires : goal.leave_values-requires
leave_values-requires c =
    let i = c.self.inside in
    let is = c.self.invariant in
    let f = leave-finds i is c.args.self.now c.self.view_is c.args.worker c.requires c.bodies_stand_as_alone.ensures.inside c.index_mut.result.now c.in-Some.body c.index_mut.ensures.value
    (sym c.take.ensures.value ∙ c.in-Some.is) in
    let kind : c.kind-kind.result ≡ kind_of_body c.in-Some.body = c.kind-kind.ensures ∙ c.into_done-done.ensures.kind in
    let node : c.node-node.result ≡ f.node = c.node-node.ensures ∙ ap (λ (j : Subject). j.node) (c.into_done-done.ensures.subject ∙ f.under.subject) in
    record {
      within = subst (λ (m : ℕ). m < length i.flat.tray.plan.rows) (sym node) (subst (λ (p : Planned). f.node < length p.rows) (sym is.flat_plan) f.within);
      fits =
          ap (λ (k : BodyKind). is_kind_of k (row_at (tree_of i.flat.tray.plan) c.node-node.result).kind) kind
          ∙ ap (λ (m : ℕ). is_kind_of (kind_of_body c.in-Some.body) (row_at (tree_of i.flat.tray.plan) m).kind) node
          ∙ ap (λ (p : Planned). is_kind_of (kind_of_body c.in-Some.body) (row_at (tree_of p) f.node).kind) is.flat_plan
          ∙ f.under.fits;
      marked =
          ap (λ (m : ℕ). is_some (mark_at i.flat.marks m)) node
          ∙ (is.flat_is f.on).held f.node f.inner (body_held ((state_in (view_of i)).nodes.status f.node) (stage_of_body c.in-Some.body) f.under.stage);
      innermost = subst (λ (m : ℕ). IsInnermost i.flat m) (sym node)
          (c.entered_nodes_are_apart.ensures.leave i.world.now i.flat (state_in (view_of i)) f.node (stage_of_body c.in-Some.body) f.reached is.flat_plan (is.flat_is f.on) f.under.stage);
    }

pub bars-well-requires : goal.bars-well-requires
bars-well-requires c =
    let i = c.self.inside in
    let is = c.self.invariant in
    let f = leave-finds i is c.args.self.now c.self.view_is c.args.worker c.requires c.bodies_stand_as_alone.ensures.inside c.index_mut.result.now c.in-Some.body c.index_mut.ensures.value
    (sym c.take.ensures.value ∙ c.in-Some.is) in
    let node : c.node-node.result ≡ f.node = c.node-node.ensures ∙ ap (λ (j : Subject). j.node) (c.into_done-done.ensures.subject ∙ f.under.subject) in
    let plan : c.put.new.self.plan ≡ i.plan.now = ap (λ (q : ResultsView). q.plan) c.put.ensures ∙ done-plan c.into_done-done.result.kind c.into_done-done.result.subject.node i.results
    ∙ is.results_plan in
    subst (λ (m : ℕ). m < length c.put.new.self.plan.rows) (sym node) (subst (λ (p : Planned). f.node < length p.rows) (sym plan) f.within)

pub leave-requires : goal.leave-requires
leave-requires c =
    let i = c.self.inside in
    let is = c.self.invariant in
    let f = leave-finds i is c.args.self.now c.self.view_is c.args.worker c.requires c.bodies_stand_as_alone.ensures.inside c.index_mut.result.now c.in-Some.body c.index_mut.ensures.value
    (sym c.take.ensures.value ∙ c.in-Some.is) in
    has-body (view_of i) i.standing i.flat i.bodies.items i.results is c.args.worker (told (view_of i) i.bodies.items c.args.worker c.in-Some.body true f) f.within

stands : (c : After-push_reserved) → StandsAfter (view_of c.self.inside) c.self.inside.standing c.self.inside.flat c.self.inside.bodies.items c.self.inside.results c.self.invariant
    (after scripts (suite_in (view_of c.self.inside)) (state_in (view_of c.self.inside)) (E.Leave c.args.worker)) c.leave.new.self c.leave_values.new.flat
    (set c.self.inside.bodies.items c.args.worker c.take.new.self) c.put.new.self
stands c =
    let i = c.self.inside in
    let is = c.self.invariant in
    let f = leave-finds i is c.args.self.now c.self.view_is c.args.worker c.requires c.bodies_stand_as_alone.ensures.inside c.index_mut.result.now c.in-Some.body c.index_mut.ensures.value
    (sym c.take.ensures.value ∙ c.in-Some.is) in
    let w = c.args.worker in
    let old = view_of i in
    let s = state_in old in
    let t = told old i.bodies.items w c.in-Some.body true f in
    let node : c.node-node.result ≡ t.node = c.node-node.ensures ∙ ap (λ (j : Subject). j.node) (c.into_done-done.ensures.subject ∙ t.under.is.subject) in
    let kind : c.kind-kind.result ≡ kind_of_body c.in-Some.body = c.kind-kind.ensures ∙ c.into_done-done.ensures.kind in
    let d = c.into_done-done.result in
    let b = stage_of_body c.in-Some.body in
    let k = kind_of_body c.in-Some.body in
    let node_done : d.subject.node ≡ t.node = ap (λ (j : Subject). j.node) (c.into_done-done.ensures.subject ∙ t.under.is.subject) in
    let put_is : c.put.new.self ≡ with_done_of k t.node i.results = c.put.ensures ∙ ap₂ (λ (q : BodyKind) (m : ℕ). with_done_of q m i.results) c.into_done-done.ensures.kind node_done in
    let here_left : AtLeave i.plan.now i.world.now i.results s t.node b k = at-leave old i.standing i.flat i.bodies.items i.results is w c.in-Some.body f in
    let ends : EndsWellAs i.standing s w (not c.bars-well.result) =
    (λ start n a busy begun class.
    let same : n ≡ t.node = let here = t.busy in cc in
    let begun_here : s.nodes.status t.node ≡ Begun a = ap s.nodes.status (sym same) ∙ begun in
    let shown : body_in (s.nodes.status t.node) ≡ Some a = ap body_in begun_here in
    let stage : b ≡ a = let under = t.under.is.stage in cc in
    let unclosed : is_closing (s.nodes.status t.node) ≡ false = ap is_closing begun_here in
    let no_test : is_of_test (head_of (row_at (tree_of i.plan.now) t.node).kind) ≡ false =
    sym (ap₂ (λ (p : Planned) (m : ℕ). is_of_test (head_of (row_at (tree_of p) m).kind)) is.standing_plan same) ∙ class in
    let first : k ≡ K.BeforeAll = first-kind k (row_at (tree_of i.plan.now) t.node).kind t.under.is.fits (t.under.is.kind ∙ unclosed) no_test in
    let barred : c.bars-well.result ≡ is_barring (with_done_of K.BeforeAll t.node i.results) t.node =
    c.bars-well.ensures ∙ ap₂ (λ (q : ResultsView) (m : ℕ). is_barring q m) (put_is ∙ ap (λ (q : BodyKind). with_done_of q t.node i.results) first) node in
    ap (λ (p : Planned). ended_well scripts (suite_of (tree_of p) p.settings start) n a s.nodes) is.standing_plan
    ∙ ap₂ (λ (m : ℕ) (e : Stage). ended_well scripts (suite_in old) m e s.nodes) same (sym stage)
    ∙ c.results_follow_leaves.ensures.well i.world.now i.results s t.node b (subst (λ (q : BodyKind). AtLeave i.plan.now i.world.now i.results s t.node b q) first here_left) t.ended
    ∙ sym (ap not barred)) in
    let looks = c.leave.ensures.state (started i.world.now) s is.stands ends in
    let shown_at : body_in (s.nodes.status c.node-node.result) ≡ Some b = ap (λ (m : ℕ). body_in (s.nodes.status m)) node ∙ t.under.is.stage in
    let closed_at : is_after_all c.kind-kind.result ≡ is_closing (s.nodes.status c.node-node.result) = ap is_after_all kind ∙ t.under.is.kind
    ∙ sym (ap (λ (m : ℕ). is_closing (s.nodes.status m)) node) in
    let values : IsFlatOf c.leave_values.new.flat (leaving scripts (suite_in old) t.node s.nodes (s.nodes.status t.node)) =
    subst (λ (m : ℕ). IsFlatOf c.leave_values.new.flat (leaving scripts (suite_in old) m s.nodes (s.nodes.status m))) node
    (subst (λ (x : Suite Head (List ℕ) Resource). IsFlatOf c.leave_values.new.flat (leaving scripts x c.node-node.result s.nodes (s.nodes.status c.node-node.result)))
    (suites-are old i.standing i.flat i.bodies.items i.results is)
    (c.leave_values.ensures.state s.nodes b (is.flat_is f.on) shown_at closed_at)) in
    let under : AreBodiesOf i.plan.now i.world.now (set i.bodies.items w c.take.new.self) (after scripts (suite_in old) s (E.Leave w)) =
    subst (λ (o : Option Body). AreBodiesOf i.plan.now i.world.now (set i.bodies.items w o) (after scripts (suite_in old) s (E.Leave w))) (sym c.take.ensures.after)
    (c.bodies_follow_events.ensures.leave i.world.now i.bodies.items s w t.node (is.bodies_are f.on) f.less t.busy) in
    let are : AreResultsOf c.put.new.self (leaving scripts (suite_in old) t.node s.nodes (s.nodes.status t.node)) =
    subst (λ (q : ResultsView). AreResultsOf q (leaving scripts (suite_in old) t.node s.nodes (s.nodes.status t.node))) (sym put_is)
    (c.results_follow_leaves.ensures.leave i.world.now i.results s t.node b k here_left t.ended) in
    left old i.standing i.flat i.bodies.items i.results is w t c.leave.new.self c.leave_values.new.flat (set i.bodies.items w c.take.new.self) c.put.new.self
    (allowed i is c.args.self.now c.self.view_is (Code.Leave w) c.requires)
    c.leave.ensures.same looks c.leave_values.ensures.same values (length-set i.bodies.items w c.take.new.self) under
    (ap (λ (q : ResultsView). q.plan) c.put.ensures ∙ done-plan d.kind d.subject.node i.results)
    (ap (λ (q : ResultsView). q.start) c.put.ensures ∙ done-start d.kind d.subject.node i.results)
    are

taken : (c : After-push_reserved) → Took c.self.inside c.args.self.now (Code.Leave c.args.worker) c.leave.new.self c.leave_values.new.flat
    (set c.self.inside.bodies.items c.args.worker c.take.new.self) c.put.new.self c.push_reserved.new.self.items
taken c =
    took c.self.inside c.self.invariant c.args.self.now c.self.view_is (Code.Leave c.args.worker) c.requires c.leave.new.self c.leave_values.new.flat
    (set c.self.inside.bodies.items c.args.worker c.take.new.self) c.put.new.self
    (stands c) c.reserve.new.self.items c.push_reserved.new.self.items c.in_ok-reserve.ensures.items c.push_reserved.ensures.items

pub invariant_of-self-2 : goal.invariant_of-self-2
invariant_of-self-2 c = (taken c).core

pub returns-clause-taken : goal.returns-clause-taken
returns-clause-taken c = (taken c).view
