use Rattle.iso_book.proofs.HeldNodes.{hold-same}
use Rattle.iso_book.specs.Holdings.{HoldSame}
use Rattle.std.proofs.Common.{refl, ◌≡◌, None, ℕ, ap, sym, ◌∙◌, subst, arith}
use Rattle.std.specs.Vec.{vec_capacity}
use Rattle.iso_book.proofs.Afters.{StandsAfter, book-as, has-room, view-next}
use Rattle.iso_book.proofs.Shuts.{due, history-shut, rests, shut, state-shut}
use Rattle.iso_book.proofs.Progresses.{shut-as}
use Rattle.iso_book.proofs.Runs.{book_of, own-shut}
use Rattle.iso_book.specs.Books.{BookView, IsBook, refusal_in, state_in, suite_in, with_event}
use Rattle.iso_book.specs.Progress.{HasShut}
use Rattle.iso_isolation.specs.Events as E
use Rattle.iso_isolation.specs.Events.{after}
use Rattle.iso_standing.specs.declared.event.Event.TheVariants as Code
use Rattle.iso_suites.specs.ScriptLanguage.{scripts}
use Rattle.iso_book.proofs.book.Book.take_shut.Goals as goal
use Rattle.iso_book.proofs.book.Book.take_shut.Goals.{After-push_reserved}

pub push_reserved-requires : goal.push_reserved-requires
push_reserved-requires c =
    let i = c.self.inside in
    let b : BookView = book_of i.plan.now i.world.now i.workers i.standing.stopped i.history.items in
    let w = c.args.worker in
    let n = c.args.node in
    let is = c.self.invariant in
    let h : refusal_in b (Code.Shut w n) ≡ None = ap (λ (v : BookView). refusal_in v (Code.Shut w n)) c.self.view_is ∙ c.requires in
    let left = due b i.standing i.vault i.results (vec_capacity i.history) is c.nodes_are_a_tree.ensures w n h in
    let room = has-room b i.standing i.vault i.results (vec_capacity i.history) is 2 left (omega arith) in
    omega (arith, room, i.history.ok)

module _ (c : After-push_reserved) where
  abbrev b : BookView
  b = book_of c.self.inside.plan.now c.self.inside.world.now c.self.inside.workers c.self.inside.standing.stopped c.self.inside.history.items

  abbrev w : ℕ
  w = c.args.worker

  abbrev n : ℕ
  n = c.args.node

  abbrev room : ℕ
  room = vec_capacity c.self.inside.history

  h : refusal_in b (Code.Shut w n) ≡ None
  h = ap (λ (v : BookView). refusal_in v (Code.Shut w n)) c.self.view_is ∙ c.requires

  on : StandsAfter b c.self.inside.standing c.self.inside.vault c.self.inside.results room c.self.invariant (after scripts (suite_in b) (state_in b) (E.Shut w n)) c.shut.new.self
      c.self.inside.vault c.self.inside.results
  on =
      let i = c.self.inside in
      let is = c.self.invariant in
      let tree = c.nodes_are_a_tree.ensures in
      shut b i.standing i.vault i.results room is tree w n h c.shut.new.self c.shut.ensures.same c.shut.ensures.state
      (c.results_follow_nodes.ensures.shut i.world.now i.results (state_in b).nodes n is.results_are (rests b i.standing i.vault i.results room is tree w n h))

  next : state_in (with_event b (Code.Shut w n)) ≡ after scripts (suite_in b) (state_in b) (E.Shut w n)
  next = let i = c.self.inside in state-shut b i.standing i.vault i.results room c.self.invariant c.nodes_are_a_tree.ensures w n h

  book-is : IsBook (book_of c.self.inside.plan.now c.self.inside.world.now c.self.inside.workers c.shut.new.self.stopped c.push_reserved.new.self.items) c.shut.new.self c.self.inside.vault
      c.self.inside.results (vec_capacity c.push_reserved.new.self)
  book-is =
      let i = c.self.inside in
      let seen = book_of i.plan.now i.world.now i.workers c.shut.new.self.stopped c.push_reserved.new.self.items in
      subst (λ (m : ℕ). IsBook seen c.shut.new.self i.vault i.results m) (sym c.push_reserved.ensures.capacity)
      (book-as b i.standing i.vault i.results room c.self.invariant (Code.Shut w n) (after scripts (suite_in b) (state_in b) (E.Shut w n)) c.shut.new.self i.vault i.results on
      (history-shut b i.standing i.vault i.results room c.self.invariant c.nodes_are_a_tree.ensures w n h) next c.push_reserved.new.self.items c.push_reserved.ensures.items)

  view-at : book_of c.self.inside.plan.now c.self.inside.world.now c.self.inside.workers c.shut.new.self.stopped c.push_reserved.new.self.items ≡ with_event b (Code.Shut w n)
  view-at =
      let i = c.self.inside in
      view-next b i.standing i.vault i.results room c.self.invariant (Code.Shut w n) (after scripts (suite_in b) (state_in b) (E.Shut w n)) c.shut.new.self i.vault i.results on
      (history-shut b i.standing i.vault i.results room c.self.invariant c.nodes_are_a_tree.ensures w n h) next c.push_reserved.new.self.items c.push_reserved.ensures.items

pub invariant_of-self : goal.invariant_of-self
invariant_of-self c = book-is c

pub returns-clause-book : goal.returns-clause-book
returns-clause-book c = view-at c ∙ ap (λ (v : BookView). with_event v (Code.Shut c.args.worker c.args.node)) c.self.view_is

pub returns-clause-held : goal.returns-clause-held
returns-clause-held c =
    let i = c.self.inside in
    let seen = book_of i.plan.now i.world.now i.workers c.shut.new.self.stopped c.push_reserved.new.self.items in
    subst (λ (v : BookView). HoldSame v seen) c.self.view_is
    (hold-same (b c) seen i.vault.lent i.vault.lent (λ m. refl) refl c.self.invariant.lent (book-is c).lent)

pub returns-clause-progress : goal.returns-clause-progress
returns-clause-progress c =
    let i = c.self.inside in
    let seen = book_of i.plan.now i.world.now i.workers c.shut.new.self.stopped c.push_reserved.new.self.items in
    subst (λ (v : BookView). HasShut c.args.worker c.args.node v seen) c.self.view_is
    (shut-as (b c) seen c.args.worker c.args.node (ap state_in (view-at c) ∙ next c) (own-shut (b c) c.args.worker c.args.node (h c)))
