use Rattle.std.proofs.Common.{true, ap, ◌∙◌}
use Rattle.std.specs.Vec.{vec_capacity}
use Rattle.iso_book.proofs.Afters.{stopped-as, view-stopped}
use Rattle.iso_book.proofs.Runs.{book_of}
use Rattle.iso_book.specs.Books.{BookView}
use Rattle.iso_book.proofs.book.Book.stop.Goals as goal

pub invariant_of-self : goal.invariant_of-self
invariant_of-self c =
    let i = c.self.inside in
    let b : BookView = book_of i.plan.now i.world.now i.workers i.standing.stopped i.history.items in
    stopped-as b i.standing i.vault i.results (vec_capacity i.history) c.self.invariant c.stop.new.self c.stop.ensures.same c.stop.ensures.state

pub returns : goal.returns
returns c =
    let i = c.self.inside in
    let b : BookView = book_of i.plan.now i.world.now i.workers i.standing.stopped i.history.items in
    view-stopped b i.standing i.vault i.results (vec_capacity i.history) c.self.invariant c.stop.new.self c.stop.ensures.same c.stop.ensures.state
    ∙ ap (λ (v : BookView). record v { stopped = true }) c.self.view_is
