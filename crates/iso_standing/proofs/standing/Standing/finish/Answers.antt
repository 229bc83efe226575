use Rattle.std.proofs.Common.{◌<◌, sym, subst}
use Rattle.iso_standing.proofs.Passing.{keeps-more}
use Rattle.iso_standing.specs.Passed.{ArePassed}
use Rattle.iso_standing.specs.Standings.{Standing, nodes_in}
use Rattle.iso_standing.proofs.standing.Standing.finish.Goals as goal

pub invariant_of-self : goal.invariant_of-self
invariant_of-self c =
    let s = c.self.inside in
    let m = c.parent-parent.result in
    let count = c.passable-passed.result in
    let there = subst (λ (u : Standing). m < nodes_in u) (sym c.self.view_is) c.parent-parent.ensures.known in
    let passed = subst (λ (u : Standing). ArePassed u.plan u.phases m count) (sym c.self.view_is) c.passable-passed.ensures in
    (c.self.invariant.0, keeps-more s.plan.now s.phases.items s.passed.items m count c.self.invariant.1 there passed, c.self.invariant.2)
