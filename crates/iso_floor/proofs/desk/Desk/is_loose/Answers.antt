use Rattle.std.proofs.Common.{◌≡◌, ◌∙◌, subst, sym}
use Rattle.iso_model.specs.declared.script.Mode.TheVariants.{Concurrent}
use Rattle.iso_plan.specs.Modes.{mode}
use Rattle.iso_plan.specs.Planned.{Planned}
use Rattle.iso_plan.specs.RowView.{tree_of}
use Rattle.iso_floor.proofs.PartyLemmas.{loose-may}
use Rattle.iso_floor.proofs.desk.Desk.is_loose.Goals as goal

pub returns-then-is_loose : goal.returns-then-is_loose
returns-then-is_loose g c =
    let i = c.self.inside in
    let d = c.self.invariant.desk in
    let is : c.plan.result.now ≡ g.G.Ground.plan = c.plan.ensures ∙ d.book.plan_is in
    rw (← c.self.view_is) (λ yes w.
    loose-may g.G.Ground.plan i.scheduler c.args.node d.scheduler.nodes_are (sym c.if-is_loose.ensures)
    (subst (λ (x : Planned). mode (tree_of x) x.settings c.args.node ≡ Concurrent) is (c.is_concurrent.ensures.yes yes)) w)
