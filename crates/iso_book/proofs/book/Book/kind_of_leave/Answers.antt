use Rattle.std.proofs.Common.{◌≡◌, ℕ, ◌<◌, Some, None, true, false, length, option_map, ap, sym, ◌∙◌, subst}
use Rattle.std.specs.Vec.{vec_capacity}
use Rattle.iso_book.proofs.Runs.{book_of}
use Rattle.iso_book.proofs.LeaveRuns.{booking-as, node-bounds, refused-first, refused-then}
use Rattle.iso_book.specs.Books.{BookView}
use Rattle.iso_book.specs.Leaves.{booking_in, is_of_worker, leave_refusal_in}
use Rattle.iso_isolation.specs.Refusals as Why
use Rattle.iso_isolation.specs.Refusals.{Refused}
use Rattle.iso_standing.specs.CodeEvents.{refused_of}
use Rattle.iso_book.proofs.book.Book.kind_of_leave.Goals as goal

pub returns-in-Some-clause-kind : goal.returns-in-Some-clause-kind
returns-in-Some-clause-kind c =
    let i = c.self.inside in
    let w = c.args.worker in
    let d = c.args.done.now in
    let b : BookView = book_of i.plan.now i.world.now i.workers i.standing.stopped i.history.items in
    let told : booking_in b w ≡ Some (refused_of c.in-Some.refused) =
    booking-as b i.standing i.vault i.results (vec_capacity i.history) c.self.invariant w (option_map refused_of c.refusal_of_booking.result) c.refusal_of_booking.ensures.kind
    ∙ ap (option_map refused_of) c.in-Some.is in
    sym (refused-first b w d (refused_of c.in-Some.refused) told) ∙ ap (λ (q : BookView). leave_refusal_in q w d) c.self.view_is

pub is_of_worker-requires : goal.is_of_worker-requires
is_of_worker-requires c =
    let i = c.self.inside in
    let w = c.args.worker in
    let b : BookView = book_of i.plan.now i.world.now i.workers i.standing.stopped i.history.items in
    sym (ap (λ (q : BookView). booking_in q w) c.self.view_is)
    ∙ booking-as b i.standing i.vault i.results (vec_capacity i.history) c.self.invariant w (option_map refused_of c.refusal_of_booking.result) c.refusal_of_booking.ensures.kind
    ∙ ap (option_map refused_of) c.in_default.is

pub returns-then-not-is_of_worker-clause-kind : goal.returns-then-not-is_of_worker-clause-kind
returns-then-not-is_of_worker-clause-kind c =
    let i = c.self.inside in
    let w = c.args.worker in
    let d = c.args.done.now in
    let v : BookView = c.args.self.now in
    let b : BookView = book_of i.plan.now i.world.now i.workers i.standing.stopped i.history.items in
    let told : booking_in v w ≡ None =
    sym (ap (λ (q : BookView). booking_in q w) c.self.view_is)
    ∙ booking-as b i.standing i.vault i.results (vec_capacity i.history) c.self.invariant w (option_map refused_of c.refusal_of_booking.result) c.refusal_of_booking.ensures.kind
    ∙ ap (option_map refused_of) c.in_default.is in
    let other : is_of_worker v w d ≡ false = sym c.is_of_worker.ensures ∙ c.if-not-is_of_worker.true in
    ap (λ (m : ℕ). Some (Why.OtherBody m)) c.node.ensures ∙ sym (refused-then v w d false told other)

pub returns-clause-kind : goal.returns-clause-kind
returns-clause-kind c =
    let i = c.self.inside in
    let w = c.args.worker in
    let d = c.args.done.now in
    let v : BookView = c.args.self.now in
    let b : BookView = book_of i.plan.now i.world.now i.workers i.standing.stopped i.history.items in
    let told : booking_in v w ≡ None =
    sym (ap (λ (q : BookView). booking_in q w) c.self.view_is)
    ∙ booking-as b i.standing i.vault i.results (vec_capacity i.history) c.self.invariant w (option_map refused_of c.refusal_of_booking.result) c.refusal_of_booking.ensures.kind
    ∙ ap (option_map refused_of) c.in_default.is in
    let mine : is_of_worker v w d ≡ true = sym c.is_of_worker.ensures ∙ c.if-not-is_of_worker.false in
    sym (refused-then v w d true told mine)

pub returns-clause-inner : goal.returns-clause-inner
returns-clause-inner c = λ none.
    let i = c.self.inside in
    let w = c.args.worker in
    let d = c.args.done.now in
    let b : BookView = book_of i.plan.now i.world.now i.workers i.standing.stopped i.history.items in
    let told : booking_in b w ≡ None =
    booking-as b i.standing i.vault i.results (vec_capacity i.history) c.self.invariant w (option_map refused_of c.refusal_of_booking.result) c.refusal_of_booking.ensures.kind
    ∙ ap (option_map refused_of) c.in_default.is in
    let mine : is_of_worker b w d ≡ true = ap (λ (q : BookView). is_of_worker q w d) c.self.view_is ∙ sym c.is_of_worker.ensures ∙ c.if-not-is_of_worker.false in
    (node-bounds b i.standing i.vault i.results (vec_capacity i.history) c.self.invariant w told c.nodes_are_a_tree.ensures d mine).0

pub returns-clause-node : goal.returns-clause-node
returns-clause-node c = λ none.
    let i = c.self.inside in
    let w = c.args.worker in
    let d = c.args.done.now in
    let b : BookView = book_of i.plan.now i.world.now i.workers i.standing.stopped i.history.items in
    let told : booking_in b w ≡ None =
    booking-as b i.standing i.vault i.results (vec_capacity i.history) c.self.invariant w (option_map refused_of c.refusal_of_booking.result) c.refusal_of_booking.ensures.kind
    ∙ ap (option_map refused_of) c.in_default.is in
    let mine : is_of_worker b w d ≡ true = ap (λ (q : BookView). is_of_worker q w d) c.self.view_is ∙ sym c.is_of_worker.ensures ∙ c.if-not-is_of_worker.false in
    subst (λ (q : BookView). d.subject.node < length q.plan.rows) c.self.view_is
    (node-bounds b i.standing i.vault i.results (vec_capacity i.history) c.self.invariant w told c.nodes_are_a_tree.ensures d mine).1
