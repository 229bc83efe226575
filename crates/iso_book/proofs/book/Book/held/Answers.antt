use Rattle.std.proofs.Common.{◌≡◌, ◌<◌, arith, length, sym, ap, ◌∙◌}
use Rattle.iso_book.proofs.Runs.{book_of}
use Rattle.iso_book.specs.Books.{BookView, state_in}
use Rattle.iso_isolation.specs.States.{is_held}
use Rattle.iso_plan.specs.Planned.{Planned}
use Rattle.iso_standing.proofs.Looks.{held-is}
use Rattle.iso_standing.specs.Phases.{bare}
use Rattle.iso_standing.specs.declared.phase.Phase.{Phase}
use Rattle.iso_standing.specs.Standings.{nodes_in}
use Rattle.iso_book.proofs.book.Book.held.Goals as goal

pub returns-clause-plan : goal.returns-clause-plan
returns-clause-plan c = c.held.ensures.plan ∙ c.self.invariant.standing_plan ∙ ap (λ (v : BookView). v.plan) c.self.view_is

pub returns-clause-held : goal.returns-clause-held
returns-clause-held c =
    let i = c.self.inside in
    let b : BookView = book_of i.plan.now i.world.now i.workers i.standing.stopped i.history.items in
    let s = state_in b in
    λ n within.
    let same : length b.plan.rows ≡ length c.args.self.now.plan.rows = ap (λ (v : BookView). length v.plan.rows) c.self.view_is in
    let plan : length c.self.inside.standing.plan.rows ≡ length b.plan.rows = ap (λ (p : Planned). length p.rows) c.self.invariant.standing_plan in
    let is : n < nodes_in c.self.inside.standing = omega (arith) in
    c.held.ensures.held n
    ∙ ap (λ (p : Phase). is_held (bare p)) (sym (c.self.invariant.stands.phases n is))
    ∙ sym (held-is (s.nodes.status n))
    ∙ ap (λ (v : BookView). is_held ((state_in v).nodes.status n)) c.self.view_is
