use Rattle.std.proofs.Common.{sym, ap, ◌∙◌}
use Rattle.iso_book.proofs.Runs.{book_of}
use Rattle.iso_book.specs.Books.{BookView, is_complete, state_in}
use Rattle.iso_isolation.specs.Runs as Runs
use Rattle.iso_lifecycle.specs.Subjects.{started}
use Rattle.iso_plan.specs.Planned.{Planned}
use Rattle.iso_plan.specs.RowView.{tree_of}
use Rattle.iso_suites.specs.PlanSuites.{suite_of}
use Rattle.iso_book.proofs.book.Book.complete.Goals as goal

pub returns : goal.returns
returns c =
    let i = c.self.inside in
    let b : BookView = book_of i.plan.now i.world.now i.workers i.standing.stopped i.history.items in
    sym (c.is_complete.ensures (started b.world) (state_in b) c.self.invariant.stands)
    ∙ ap (λ (p : Planned). Runs.is_complete (suite_of (tree_of p) p.settings (started b.world)) (state_in b)) c.self.invariant.standing_plan
    ∙ ap (λ (v : BookView). is_complete v) c.self.view_is
