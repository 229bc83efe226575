use Rattle.std.proofs.Common.{subst}
use Rattle.iso_book.proofs.LastEvents.{began}
use Rattle.iso_book.proofs.Runs.{book_of}
use Rattle.iso_book.specs.Books.{BookView}
use Rattle.iso_book.specs.Leaves.{Began, leave_refusal_in}
use Rattle.std.proofs.Common.{◌≡◌, ℕ, None}
use Rattle.iso_lifecycle.specs.DoneViews.{DoneView}
use Rattle.iso_book.proofs.book.Book.keep_beginnings.Goals as goal

abbrev Begin : BookView → Type 0
Begin b = (w : ℕ) (d : DoneView) → leave_refusal_in b w d ≡ None → Began b.history w d.subject.node

pub returns : goal.returns
returns c =
    let i = c.self.inside in
    let b : BookView = book_of i.plan.now i.world.now i.workers i.standing.stopped i.history.items in
    subst Begin c.self.view_is (λ w d none. began b w d c.self.invariant.history.no_step none)
