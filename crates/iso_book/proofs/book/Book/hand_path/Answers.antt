use Rattle.std.proofs.Common.{◌≡◌, None, true, ap, sym, ◌∙◌, subst}
use Rattle.std.specs.Vec.{vec_capacity}
use Rattle.iso_book.proofs.Frames.{closes-in, handed-is, on-ok}
use Rattle.iso_book.proofs.Runs.{book_of, reached, unstopped-shut}
use Rattle.iso_book.proofs.Shuts.{class, inner, rests, within}
use Rattle.iso_book.specs.Books.{BookView, refusal_in, state_in}
use Rattle.iso_lifecycle.specs.ResultViews.{AreOpened}
use Rattle.iso_lifecycle.specs.Subjects.{enclosing, opening_of, subject}
use Rattle.iso_plan.specs.Paths.{path}
use Rattle.iso_plan.specs.Planned.{Planned}
use Rattle.iso_plan.specs.RowView.{tree_of}
use Rattle.iso_standing.specs.declared.event.Event.TheVariants as Code
use Rattle.iso_book.proofs.book.Book.hand_path.Goals as goal

pub hand_own_path-requires-clause-start : goal.hand_own_path-requires-clause-start
hand_own_path-requires-clause-start c = c.self.invariant.results_world ∙ ap (λ (v : BookView). v.world) c.self.view_is ∙ sym c.requires.world

pub hand_own_path-requires-clause-opened : goal.hand_own_path-requires-clause-opened
hand_own_path-requires-clause-opened c =
    let i = c.self.inside in
    let w = c.args.worker in
    let n = c.args.node in
    let is = c.self.invariant in
    let tree = c.nodes_are_a_tree.ensures in
    let room = vec_capacity i.history in
    let b : BookView = book_of i.plan.now i.world.now i.workers i.standing.stopped i.history.items in
    let h : refusal_in b (Code.Shut w n) ≡ None = ap (λ (v : BookView). refusal_in v (Code.Shut w n)) c.self.view_is ∙ c.requires.allowed in
    let same = c.requires.plan ∙ sym (ap (λ (v : BookView). v.plan) c.self.view_is) in
    subst (λ (p : Planned). AreOpened i.results (path (tree_of p) n)) (sym same)
    (c.bodies_stand_as_alone.ensures.opened_at_rest i.world.now i.results (state_in b) n (reached b is.history (unstopped-shut b w n h)) is.results_are
    (within b i.standing i.vault i.results room is tree w n h) (rests b i.standing i.vault i.results room is tree w n h))

pub returns-clause-begins : goal.returns-clause-begins
returns-clause-begins c =
    let i = c.self.inside in
    let w = c.args.worker in
    let n = c.args.node in
    let is = c.self.invariant in
    let tree = c.nodes_are_a_tree.ensures in
    let room = vec_capacity i.history in
    let b : BookView = book_of i.plan.now i.world.now i.workers i.standing.stopped i.history.items in
    let h : refusal_in b (Code.Shut w n) ≡ None = ap (λ (v : BookView). refusal_in v (Code.Shut w n)) c.self.view_is ∙ c.requires.allowed in
    let t = c.args.tray.now in
    let p = c.requires.plan ∙ sym (ap (λ (v : BookView). v.plan) c.self.view_is) in
    let s = c.requires.world ∙ sym (ap (λ (v : BookView). v.world) c.self.view_is) in
    let got = reached b is.history (unstopped-shut b w n h) in
    let pos = inner b i.standing i.vault i.results room is tree w n h in
    let inside = within b i.standing i.vault i.results room is tree w n h in
    let alone = c.bodies_stand_as_alone.ensures in
    let well : (opening_of (enclosing (subject i.plan.now i.world.now n))).well ≡ true =
    alone.enclosed i.world.now (state_in b) n got pos inside (alone.around i.world.now (state_in b) n got pos inside (rests b i.standing i.vault i.results room is tree w n h)) in
    on-ok c.hand_own_path.result c.hand_own_path.ensures.ok (λ e.
    closes-in i.plan.now i.world.now n t p s pos inside well c.hand_own_path.new.self (handed-is i.results t c.hand_own_path.new.self n (is.results_plan ∙ sym p) (is.results_world ∙ sym s) e)
    tree (class b i.standing i.vault i.results room is tree w n h))
