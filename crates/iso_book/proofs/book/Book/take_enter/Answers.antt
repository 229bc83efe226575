use Rattle.std.proofs.Common.{◌≡◌, None, refl, ℕ, ap, sym, ◌∙◌, subst, arith}
use Rattle.std.specs.Vec.{vec_capacity}
use Rattle.iso_book.proofs.Afters.{StandsAfter, book-as, has-room, view-next}
use Rattle.iso_book.proofs.Enters.{can-lend, due, entered, history-entered, lends, state-entered, waiting}
use Rattle.iso_book.proofs.HeldNodes.{hold-alike, lent-apart}
use Rattle.iso_book.proofs.Homes.{unflat}
use Rattle.iso_book.proofs.Progresses.{entered-as}
use Rattle.iso_book.proofs.Runs.{book_of}
use Rattle.iso_book.specs.Books.{BookView, IsBook, refusal_in, state_in, suite_in, with_event}
use Rattle.iso_book.specs.Holdings.{HoldAlike}
use Rattle.iso_book.specs.Progress.{HasEntered}
use Rattle.iso_book.specs.Turns.{MayEnterWith}
use Rattle.iso_isolation.specs.Events as E
use Rattle.iso_isolation.specs.Events.{after}
use Rattle.iso_locks.specs.Trays.{is_lent}
use Rattle.iso_locks.specs.Vaults.{VaultView, lending}
use Rattle.iso_standing.specs.declared.event.Event.TheVariants as Code
use Rattle.iso_suites.specs.ScriptLanguage.{scripts}
use Rattle.iso_book.proofs.book.Book.take_enter.Goals as goal
use Rattle.iso_book.proofs.book.Book.take_enter.Goals.{After-lent_nodes_find_their_values}

pub lend_free-requires-clause-can : goal.lend_free-requires-clause-can
lend_free-requires-clause-can c =
    let i = c.self.inside in
    let b : BookView = book_of i.plan.now i.world.now i.workers i.standing.stopped i.history.items in
    let w = c.args.worker in
    let n = c.args.node in
    let h : refusal_in b (Code.Enter w n) ≡ None = ap (λ (v : BookView). refusal_in v (Code.Enter w n)) c.self.view_is ∙ c.requires.allowed in
    can-lend b i.standing i.vault i.results (vec_capacity i.history) c.self.invariant c.nodes_are_a_tree.ensures w n h c.args.tray.now
    (subst (λ (v : BookView). MayEnterWith v n c.args.tray.now) (sym c.self.view_is) c.requires.own)

pub lend_free-requires-clause-free : goal.lend_free-requires-clause-free
lend_free-requires-clause-free c =
    let i = c.self.inside in
    let b : BookView = book_of i.plan.now i.world.now i.workers i.standing.stopped i.history.items in
    let w = c.args.worker in
    let n = c.args.node in
    let h : refusal_in b (Code.Enter w n) ≡ None = ap (λ (v : BookView). refusal_in v (Code.Enter w n)) c.self.view_is ∙ c.requires.allowed in
    lends b i.standing i.vault i.results (vec_capacity i.history) c.self.invariant c.nodes_are_a_tree.ensures w n h

pub push_reserved-requires : goal.push_reserved-requires
push_reserved-requires c =
    let i = c.self.inside in
    let b : BookView = book_of i.plan.now i.world.now i.workers i.standing.stopped i.history.items in
    let w = c.args.worker in
    let n = c.args.node in
    let is = c.self.invariant in
    let h : refusal_in b (Code.Enter w n) ≡ None = ap (λ (v : BookView). refusal_in v (Code.Enter w n)) c.self.view_is ∙ c.requires.allowed in
    let left = due b i.standing i.vault i.results (vec_capacity i.history) is c.nodes_are_a_tree.ensures w n h in
    let room = has-room b i.standing i.vault i.results (vec_capacity i.history) is 4 left (omega arith) in
    omega (arith, room, i.history.ok)

module _ (c : After-lent_nodes_find_their_values) where
  abbrev b : BookView
  b = book_of c.self.inside.plan.now c.self.inside.world.now c.self.inside.workers c.self.inside.standing.stopped c.self.inside.history.items

  abbrev w : ℕ
  w = c.args.worker

  abbrev n : ℕ
  n = c.args.node

  abbrev room : ℕ
  room = vec_capacity c.self.inside.history

  h : refusal_in b (Code.Enter w n) ≡ None
  h = ap (λ (v : BookView). refusal_in v (Code.Enter w n)) c.self.view_is ∙ c.requires.allowed

  on : StandsAfter b c.self.inside.standing c.self.inside.vault c.self.inside.results room c.self.invariant (after scripts (suite_in b) (state_in b) (E.Enter w n)) c.enter.new.self
      (lending n c.self.inside.vault) c.self.inside.results
  on =
      let i = c.self.inside in
      let is = c.self.invariant in
      let tree = c.nodes_are_a_tree.ensures in
      entered b i.standing i.vault i.results room is tree w n h c.enter.new.self c.enter.ensures.same c.enter.ensures.state
      (c.results_follow_nodes.ensures.enter i.world.now i.results (state_in b).nodes n is.results_are (waiting b i.standing i.vault i.results room is tree w n h))

  next : state_in (with_event b (Code.Enter w n)) ≡ after scripts (suite_in b) (state_in b) (E.Enter w n)
  next = let i = c.self.inside in state-entered b i.standing i.vault i.results room c.self.invariant c.nodes_are_a_tree.ensures w n h

  vault-is : c.lend_free.new.self ≡ lending n c.self.inside.vault
  vault-is = c.lend_free.ensures.vault

  book-is : IsBook (book_of c.self.inside.plan.now c.self.inside.world.now c.self.inside.workers c.enter.new.self.stopped c.push_reserved.new.self.items) c.enter.new.self c.lend_free.new.self
      c.self.inside.results (vec_capacity c.push_reserved.new.self)
  book-is =
      let i = c.self.inside in
      let seen = book_of i.plan.now i.world.now i.workers c.enter.new.self.stopped c.push_reserved.new.self.items in
      subst (λ (m : ℕ). IsBook seen c.enter.new.self c.lend_free.new.self i.results m) (sym c.push_reserved.ensures.capacity)
      (subst (λ (v : VaultView). IsBook seen c.enter.new.self v i.results room) (sym vault-is)
      (book-as b i.standing i.vault i.results room c.self.invariant (Code.Enter w n) (after scripts (suite_in b) (state_in b) (E.Enter w n)) c.enter.new.self (lending n i.vault) i.results on
      (history-entered b i.standing i.vault i.results room c.self.invariant c.nodes_are_a_tree.ensures w n h) next c.push_reserved.new.self.items c.push_reserved.ensures.items))

  view-at : book_of c.self.inside.plan.now c.self.inside.world.now c.self.inside.workers c.enter.new.self.stopped c.push_reserved.new.self.items ≡ with_event b (Code.Enter w n)
  view-at =
      let i = c.self.inside in
      view-next b i.standing i.vault i.results room c.self.invariant (Code.Enter w n) (after scripts (suite_in b) (state_in b) (E.Enter w n)) c.enter.new.self (lending n i.vault) i.results on
      (history-entered b i.standing i.vault i.results room c.self.invariant c.nodes_are_a_tree.ensures w n h) next c.push_reserved.new.self.items c.push_reserved.ensures.items

pub invariant_of-self : goal.invariant_of-self
invariant_of-self c = book-is c

pub returns-clause-book : goal.returns-clause-book
returns-clause-book c = view-at c ∙ ap (λ (v : BookView). with_event v (Code.Enter c.args.worker c.args.node)) c.self.view_is

pub returns-clause-reads : goal.returns-clause-reads
returns-clause-reads c =
    let t = c.lend_free.ensures.tray in
    λ k. c.lent_nodes_find_their_values.ensures.read (t.flat ∙ unflat c.args.tray.now c.args.node c.requires.own.own.around) c.args.node k t.holds

pub returns-clause-held : goal.returns-clause-held
returns-clause-held c =
    let i = c.self.inside in
    let seen = book_of i.plan.now i.world.now i.workers c.enter.new.self.stopped c.push_reserved.new.self.items in
    subst (λ (v : BookView). HoldAlike c.args.node v seen) c.self.view_is
    (hold-alike (b c) seen i.vault.lent c.lend_free.new.self.lent c.args.node
    (λ m apart. ap (λ (v : VaultView). is_lent v.lent m) (vault-is c) ∙ lent-apart c.args.node i.vault m apart) refl c.self.invariant.lent (book-is c).lent)

pub returns-clause-progress : goal.returns-clause-progress
returns-clause-progress c =
    let i = c.self.inside in
    let seen = book_of i.plan.now i.world.now i.workers c.enter.new.self.stopped c.push_reserved.new.self.items in
    subst (λ (v : BookView). HasEntered c.args.worker c.args.node v seen) c.self.view_is
    (entered-as (b c) seen c.args.worker c.args.node (ap state_in (view-at c) ∙ next c))
