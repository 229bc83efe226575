use Rattle.std.proofs.Common.{sym, ap, ◌∙◌}
use Rattle.iso_book.proofs.Runs.{book_of, refusal-is}
use Rattle.iso_book.specs.Books.{BookView, refusal_in, state_in}
use Rattle.iso_lifecycle.specs.Subjects.{started}
use Rattle.iso_standing.specs.declared.event.Event.TheVariants as Code
use Rattle.iso_book.proofs.book.Book.kind_of_enter.Goals as goal

pub returns-clause-kind : goal.returns-clause-kind
returns-clause-kind c =
    let i = c.self.inside in
    let b : BookView = book_of i.plan.now i.world.now i.workers i.standing.stopped i.history.items in
    sym (c.refusal_of_enter.ensures.kind (started b.world) (state_in b) c.self.invariant.stands)
    ∙ refusal-is b i.standing c.self.invariant.standing_plan c.self.invariant.workers (Code.Enter c.args.worker c.args.node)
    ∙ ap (λ (v : BookView). refusal_in v (Code.Enter c.args.worker c.args.node)) c.self.view_is
