use Rattle.std.proofs.Common.{◌≡◌, ℕ, None, Bool, true, false, not, refl, ap, ap₂, sym, ◌∙◌, subst, arith}
use Rattle.std.specs.Vec.{vec_capacity}
use Rattle.iso_book.proofs.HeldNodes.{hold-after}
use Rattle.iso_book.specs.Holdings.{HoldAfter}
use Rattle.iso_book.proofs.LeaveBooks.{AtBook, at-book, can-put, can-take-back, ends-as, goes-on, has-its-body, has-room, left-as, view-left}
use Rattle.iso_book.proofs.Runs.{book_of}
use Rattle.iso_book.specs.Books.{BookView, IsBook, with_event}
use Rattle.iso_book.specs.Leaves.{after_leave, home_after, is_last, leave_refusal_in}
use Rattle.iso_book.specs.Progress.{HasGoneOn}
use Rattle.iso_book.specs.Turns.{holds_writers}
use Rattle.iso_isolation.specs.Events as E
use Rattle.iso_lifecycle.specs.ResultViews.{ResultsView, is_barring, with_done}
use Rattle.iso_lifecycle.specs.Subjects.{started}
use Rattle.iso_lifecycle.specs.declared.kind.BodyKind.{BodyKind}
use Rattle.iso_lifecycle.specs.declared.kind.BodyKind.TheVariants as K
use Rattle.iso_locks.specs.Trays.{TrayView}
use Rattle.iso_locks.specs.Vaults.{CanTakeBack, VaultView}
use Rattle.iso_plan.specs.Paths.{parent, path}
use Rattle.iso_plan.specs.RowView.{tree_of}
use Rattle.iso_standing.specs.Standings.{LooksLike, after_in}
use Rattle.iso_standing.specs.declared.event.Event.TheVariants as Code
use Rattle.iso_suites.proofs.StateRuns.{both-true}
use Rattle.iso_book.proofs.book.Book.take_leave.Goals as goal
use Rattle.iso_book.proofs.book.Book.take_leave.Goals.{After-new}

after-flat : (k : BodyKind) (n : ℕ) (t : TrayView) → (after_leave k n t).flat ≡ t.flat
after-flat K.BeforeAll n t = refl
after-flat K.Test n t = refl
after-flat K.AfterAll n t = refl

not-true : (p : Bool) → not p ≡ true → p ≡ false
not-true true e = absurd cc
not-true false e = refl

pub put-requires : goal.put-requires
put-requires c =
    let i = c.self.inside in
    let w = c.args.worker in
    let d = c.args.done in
    let b : BookView = book_of i.plan.now i.world.now i.workers i.standing.stopped i.history.items in
    let none : leave_refusal_in b w d ≡ None = ap (λ (q : BookView). leave_refusal_in q w d) c.self.view_is ∙ c.requires.allowed in
    let a = at-book b i.standing i.vault i.results (vec_capacity i.history) w d c.self.invariant none c.nodes_are_a_tree.ensures c.histories_go_on_by_leaves.ensures
    c.standings_tell_of_states.ensures.step c.results_follow_nodes.ensures.step in
    can-put b i.standing i.vault i.results (vec_capacity i.history) w d a c.results_follow_leaves.ensures.put
    (c.requires.brought.plan ∙ c.requires.own.own.plan ∙ sym (ap (λ (q : BookView). q.plan) c.self.view_is))
    (c.requires.brought.start ∙ c.requires.own.own.world ∙ sym (ap (λ (q : BookView). q.world) c.self.view_is))

pub leave-requires : goal.leave-requires
leave-requires c =
    let i = c.self.inside in
    let w = c.args.worker in
    let d = c.args.done in
    let b : BookView = book_of i.plan.now i.world.now i.workers i.standing.stopped i.history.items in
    let none : leave_refusal_in b w d ≡ None = ap (λ (q : BookView). leave_refusal_in q w d) c.self.view_is ∙ c.requires.allowed in
    let a = at-book b i.standing i.vault i.results (vec_capacity i.history) w d c.self.invariant none c.nodes_are_a_tree.ensures c.histories_go_on_by_leaves.ensures
    c.standings_tell_of_states.ensures.step c.results_follow_nodes.ensures.step in
    has-its-body b i.standing i.vault i.results (vec_capacity i.history) w d a

pub bring_home-requires : goal.bring_home-requires
bring_home-requires c =
    let i = c.self.inside in
    let w = c.args.worker in
    let d = c.args.done in
    let b : BookView = book_of i.plan.now i.world.now i.workers i.standing.stopped i.history.items in
    let none : leave_refusal_in b w d ≡ None = ap (λ (q : BookView). leave_refusal_in q w d) c.self.view_is ∙ c.requires.allowed in
    let a = at-book b i.standing i.vault i.results (vec_capacity i.history) w d c.self.invariant none c.nodes_are_a_tree.ensures c.histories_go_on_by_leaves.ensures
    c.standings_tell_of_states.ensures.step c.results_follow_nodes.ensures.step in
    let t : TrayView = c.args.tray.now in
    λ own_last.
    subst (λ (m : ℕ). CanTakeBack m i.vault t) (sym c.node-node.ensures)
    (can-take-back b i.standing i.vault i.results (vec_capacity i.history) w d a t
    (c.requires.own.own.plan ∙ sym (ap (λ (q : BookView). q.plan) c.self.view_is))
    (c.requires.own.own.world ∙ sym (ap (λ (q : BookView). q.world) c.self.view_is))
    c.requires.own.lent c.requires.brought c.lent_nodes_find_their_values.ensures.written
    (sym (ap is_last c.kind-kind.ensures) ∙ own_last))

pub push_reserved-requires : goal.push_reserved-requires
push_reserved-requires c =
    let i = c.self.inside in
    let w = c.args.worker in
    let d = c.args.done in
    let b : BookView = book_of i.plan.now i.world.now i.workers i.standing.stopped i.history.items in
    let none : leave_refusal_in b w d ≡ None = ap (λ (q : BookView). leave_refusal_in q w d) c.self.view_is ∙ c.requires.allowed in
    let a = at-book b i.standing i.vault i.results (vec_capacity i.history) w d c.self.invariant none c.nodes_are_a_tree.ensures c.histories_go_on_by_leaves.ensures
    c.standings_tell_of_states.ensures.step c.results_follow_nodes.ensures.step in
    let room = has-room b i.standing i.vault i.results (vec_capacity i.history) w d a in
    omega (arith, i.history.ok)

-- the book before it, that nothing refuses the Leave there, and how its standing has taken it
abbrev old : After-new → BookView
old c = book_of c.self.inside.plan.now c.self.inside.world.now c.self.inside.workers c.self.inside.standing.stopped c.self.inside.history.items

at : (c : After-new) → AtBook (old c) c.self.inside.standing c.self.inside.vault c.self.inside.results (vec_capacity c.self.inside.history) c.args.worker c.args.done
at c =
    let i = c.self.inside in
    at-book (old c) i.standing i.vault i.results (vec_capacity i.history) c.args.worker c.args.done c.self.invariant
    (ap (λ (q : BookView). leave_refusal_in q c.args.worker c.args.done) c.self.view_is ∙ c.requires.allowed) c.nodes_are_a_tree.ensures
    c.histories_go_on_by_leaves.ensures c.standings_tell_of_states.ensures.step c.results_follow_nodes.ensures.step

looks : (c : After-new) → LooksLike c.leave.new.self (after_in c.self.inside.standing (started c.self.inside.world.now) (at c).goes.before (E.Leave c.args.worker))
looks c =
    let i = c.self.inside in
    let d = c.args.done in
    let a = at c in
    let barred : c.bars-well.result ≡ is_barring (with_done d i.results) d.subject.node =
    c.bars-well.ensures ∙ ap₂ (λ (q : ResultsView) (m : ℕ). is_barring q m) c.put.ensures c.node-node.ensures in
    c.leave.ensures.state (started i.world.now) a.goes.before a.like
    (ends-as (old c) i.standing i.vault i.results (vec_capacity i.history) c.args.worker d a c.results_follow_leaves.ensures.well (not c.bars-well.result) (ap not barred))

vault-is : (c : After-new) → c.bring_home.new.vault ≡ home_after c.args.done.kind c.args.done.subject.node c.self.inside.vault
vault-is c = c.bring_home.ensures.vault ∙ ap₂ (λ (k : BodyKind) (m : ℕ). home_after k m c.self.inside.vault) c.kind-kind.ensures c.node-node.ensures

book-is : (c : After-new) → IsBook (book_of c.self.inside.plan.now c.self.inside.world.now c.self.inside.workers c.leave.new.self.stopped c.push_reserved.new.self.items) c.leave.new.self
    c.bring_home.new.vault c.put.new.self
    (vec_capacity c.push_reserved.new.self)
book-is c =
    let i = c.self.inside in
    let w = c.args.worker in
    let d = c.args.done in
    let next : BookView = book_of i.plan.now i.world.now i.workers c.leave.new.self.stopped c.push_reserved.new.self.items in
    let all : IsBook next c.leave.new.self (home_after d.kind d.subject.node i.vault) (with_done d i.results) (vec_capacity i.history) =
    left-as (old c) i.standing i.vault i.results (vec_capacity i.history) w d (at c) c.results_follow_leaves.ensures.leave c.leave.new.self c.leave.ensures.same (looks c)
    c.push_reserved.new.self.items c.push_reserved.ensures.items in
    subst (λ (m : ℕ). IsBook next c.leave.new.self c.bring_home.new.vault c.put.new.self m) (sym c.push_reserved.ensures.capacity)
    (subst (λ (q : ResultsView). IsBook next c.leave.new.self c.bring_home.new.vault q (vec_capacity i.history)) (sym c.put.ensures)
    (subst (λ (q : VaultView). IsBook next c.leave.new.self q (with_done d i.results) (vec_capacity i.history)) (sym (vault-is c)) all))

pub invariant_of-self : goal.invariant_of-self
invariant_of-self c = book-is c

pub returns-clause-held : goal.returns-clause-held
returns-clause-held c =
    let i = c.self.inside in
    let d = c.args.done in
    let seen = book_of i.plan.now i.world.now i.workers c.leave.new.self.stopped c.push_reserved.new.self.items in
    subst (λ (v : BookView). HoldAfter d.kind d.subject.node v seen) c.self.view_is
    (hold-after d.kind d.subject.node i.vault (old c) seen c.bring_home.new.vault.lent (ap (λ (v : VaultView). v.lent) (vault-is c)) refl c.self.invariant.lent (book-is c).lent)

view-at : (c : After-new) → book_of c.self.inside.plan.now c.self.inside.world.now c.self.inside.workers c.leave.new.self.stopped c.push_reserved.new.self.items
    ≡ with_event (old c) (Code.Leave c.args.worker)
view-at c =
    let i = c.self.inside in
    view-left (old c) i.standing i.vault i.results (vec_capacity i.history) c.args.worker c.args.done (at c) c.results_follow_leaves.ensures.leave c.leave.new.self c.leave.ensures.same
    (looks c) c.push_reserved.new.self.items c.push_reserved.ensures.items

pub returns-clause-book : goal.returns-clause-book
returns-clause-book c = view-at c ∙ ap (λ (q : BookView). with_event q (Code.Leave c.args.worker)) c.self.view_is

pub returns-clause-progress : goal.returns-clause-progress
returns-clause-progress c =
    let i = c.self.inside in
    let d = c.args.done in
    let seen = book_of i.plan.now i.world.now i.workers c.leave.new.self.stopped c.push_reserved.new.self.items in
    subst (λ (v : BookView). HasGoneOn d.kind d.subject.node v seen) c.self.view_is
    (subst (HasGoneOn d.kind d.subject.node (old c)) (sym (view-at c)) (goes-on (old c) i.standing i.vault i.results (vec_capacity i.history) c.args.worker d (at c)))

pub returns-clause-reads : goal.returns-clause-reads
returns-clause-reads c = λ n holds k read.
    let t : TrayView = c.args.tray.now in
    let around = c.requires.own.own.around in
    let flat : c.bring_home.new.tray.flat ≡ false =
    ap (λ (q : TrayView). q.flat) c.bring_home.ensures.tray ∙ after-flat c.kind-kind.result c.node-node.result t
    ∙ not-true t.flat (both-true (not t.flat) (holds_writers t (path (tree_of t.plan) (parent (tree_of t.plan) c.args.done.subject.node))) around).0 in
    c.lent_nodes_find_their_values-2.ensures.read flat n k holds read
