use Rattle.std.proofs.Common.{◌∙◌, ap}
use Rattle.iso_book.proofs.Completes.{all-results}
use Rattle.iso_book.proofs.Runs.{book_of}
use Rattle.iso_book.specs.Books.{BookView, is_complete}
use Rattle.iso_book.proofs.book.Book.results.Goals as goal

pub returns-clause-complete : goal.returns-clause-complete
returns-clause-complete c = λ h.
    let i = c.self.inside in
    let b : BookView = book_of i.plan.now i.world.now i.workers i.standing.stopped i.history.items in
    all-results b i.results c.self.invariant.results_plan c.self.invariant.results_are (ap (λ (v : BookView). is_complete v) c.self.view_is ∙ h)
