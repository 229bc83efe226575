use Rattle.std.proofs.Common.{◌≡◌, ◌<◌, Some, None, length, ap, sym, ◌∙◌, subst}
use Rattle.std.specs.Vec.{vec_capacity}
use Rattle.iso_book.proofs.Runs.{book_of}
use Rattle.iso_book.proofs.LeaveRuns.{node-within}
use Rattle.iso_book.specs.Books.{BookView}
use Rattle.iso_book.specs.Leaves.{booking_in}
use Rattle.iso_standing.specs.Standings.{node_of}
use Rattle.iso_book.proofs.book.Book.is_of_worker.Goals as goal

pub is_under_way-requires : goal.is_under_way-requires
is_under_way-requires c =
    let i = c.self.inside in
    let w = c.args.worker in
    let b : BookView = book_of i.plan.now i.world.now i.workers i.standing.stopped i.history.items in
    let allowed : booking_in b w ≡ None = ap (λ (q : BookView). booking_in q w) c.self.view_is ∙ c.requires in
    let known : node_of i.standing w ≡ Some c.in-Some.node = sym c.node_of.ensures ∙ c.in-Some.is in
    subst (λ (q : BookView). c.in-Some.node < length q.plan.rows) c.self.view_is
    (node-within b i.standing i.vault i.results (vec_capacity i.history) c.self.invariant w allowed c.nodes_are_a_tree.ensures c.in-Some.node known)
