use Rattle.std.proofs.Common.{subst}
use Rattle.iso_book.proofs.Runs.{IsRunOf}
use Rattle.iso_book.specs.Books.{BookView}
use Rattle.iso_book.proofs.book.Book.history.Goals as goal

pub returns-clause-run : goal.returns-clause-run
returns-clause-run c = subst (λ (b : BookView). IsRunOf b) c.self.view_is c.self.invariant.history
