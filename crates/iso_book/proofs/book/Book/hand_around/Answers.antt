use Rattle.std.proofs.Common.{◌≡◌, None, true, ℕ, ap, sym, ◌∙◌, subst, arith}
use Rattle.std.specs.Prelude.{unwrap_or}
use Rattle.std.specs.Vec.{vec_capacity}
use Rattle.iso_book.proofs.Enters.{around, inner, within}
use Rattle.iso_book.proofs.Frames.{begins-in, handed-is, on-ok, parent-is}
use Rattle.iso_book.proofs.Runs.{book_of, reached, unstopped-enter}
use Rattle.iso_book.specs.Books.{BookView, refusal_in, state_in}
use Rattle.iso_book.specs.Turns.{handed}
use Rattle.iso_lifecycle.specs.ResultViews.{AreOpened}
use Rattle.iso_lifecycle.specs.Subjects.{enclosing, opening_of, subject}
use Rattle.iso_plan.specs.Paths.{parent, path}
use Rattle.iso_plan.specs.Planned.{Planned}
use Rattle.iso_plan.specs.RowView.{tree_of}
use Rattle.iso_standing.specs.declared.event.Event.TheVariants as Code
use Rattle.iso_book.proofs.book.Book.hand_around.Goals as goal

pub hand_own_path-requires-clause-start : goal.hand_own_path-requires-clause-start
hand_own_path-requires-clause-start c = c.self.invariant.results_world ∙ ap (λ (v : BookView). v.world) c.self.view_is ∙ sym c.requires.world

pub hand_own_path-requires-clause-opened : goal.hand_own_path-requires-clause-opened
hand_own_path-requires-clause-opened c =
    let i = c.self.inside in
    let w = c.args.worker in
    let n = c.args.node in
    let is = c.self.invariant in
    let tree = c.nodes_are_a_tree.ensures in
    let room = vec_capacity i.history in
    let b : BookView = book_of i.plan.now i.world.now i.workers i.standing.stopped i.history.items in
    let h : refusal_in b (Code.Enter w n) ≡ None = ap (λ (v : BookView). refusal_in v (Code.Enter w n)) c.self.view_is ∙ c.requires.allowed in
    let pos = inner b i.standing i.vault i.results room is tree w n h in
    let inside = within b i.standing i.vault i.results room is tree w n h in
    let class : c.unwrap_or-class.result ≡ parent (tree_of i.plan.now) n = parent-is (tree_of i.plan.now) n c.unwrap_or-class.result pos
    (c.unwrap_or-class.ensures ∙ ap (λ o. unwrap_or o 0) c.parent.ensures) in
    let less = tree.below n pos in
    subst (λ (m : ℕ). AreOpened i.results (path (tree_of c.args.tray.now.plan) m)) (sym class)
    (subst (λ (p : Planned). AreOpened i.results (path (tree_of p) (parent (tree_of i.plan.now) n))) (sym (c.requires.plan ∙ sym (ap (λ (v : BookView). v.plan) c.self.view_is)))
    (c.bodies_stand_as_alone.ensures.opened i.world.now i.results (state_in b) (parent (tree_of i.plan.now) n) (reached b is.history (unstopped-enter b w n h)) is.results_are
    (omega (arith, less, inside)) (around b i.standing i.vault i.results room is tree w n h)))

pub returns-clause-begins : goal.returns-clause-begins
returns-clause-begins c =
    let i = c.self.inside in
    let w = c.args.worker in
    let n = c.args.node in
    let is = c.self.invariant in
    let tree = c.nodes_are_a_tree.ensures in
    let room = vec_capacity i.history in
    let b : BookView = book_of i.plan.now i.world.now i.workers i.standing.stopped i.history.items in
    let h : refusal_in b (Code.Enter w n) ≡ None = ap (λ (v : BookView). refusal_in v (Code.Enter w n)) c.self.view_is ∙ c.requires.allowed in
    let t = c.args.tray.now in
    let p = c.requires.plan ∙ sym (ap (λ (v : BookView). v.plan) c.self.view_is) in
    let s = c.requires.world ∙ sym (ap (λ (v : BookView). v.world) c.self.view_is) in
    let pos = inner b i.standing i.vault i.results room is tree w n h in
    let inside = within b i.standing i.vault i.results room is tree w n h in
    let well : (opening_of (enclosing (subject i.plan.now i.world.now n))).well ≡ true =
    c.bodies_stand_as_alone.ensures.enclosed i.world.now (state_in b) n (reached b is.history (unstopped-enter b w n h)) pos inside (around b i.standing i.vault i.results room is tree w n h) in
    let class : c.unwrap_or-class.result ≡ parent (tree_of t.plan) n =
    parent-is (tree_of i.plan.now) n c.unwrap_or-class.result pos (c.unwrap_or-class.ensures ∙ ap (λ o. unwrap_or o 0) c.parent.ensures) ∙ ap (λ (q : Planned). parent (tree_of q) n) (sym p) in
    on-ok c.hand_own_path.result c.hand_own_path.ensures.ok (λ e.
    begins-in i.plan.now i.world.now n t p s pos inside well c.hand_own_path.new.self
    (handed-is i.results t c.hand_own_path.new.self c.unwrap_or-class.result (is.results_plan ∙ sym p) (is.results_world ∙ sym s) e ∙ ap (handed t) class))
