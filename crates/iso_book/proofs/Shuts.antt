-- A Shut that nothing refuses.
use Rattle.std.proofs.Common.{◌≡◌, ℕ, ◌<◌, ◌≤◌, None, true, false, length, refl, ap, ◌∙◌, subst, arith}
use Rattle.iso_book.proofs.Afters.{StandsAfter}
use Rattle.iso_book.proofs.Enters.{NodeStatus}
use Rattle.iso_book.proofs.Runs.{history-next, may-shut, state-next, unstopped-shut, within-shut}
use Rattle.iso_book.proofs.Weights.{among, one-less, weight-at}
use Rattle.iso_book.specs.Books.{BookView, IsBook, left_below, left_in, refusal_in, state_in, suite_in, weight, with_event}
use Rattle.iso_isolation.proofs.Accepted.{MayShut}
use Rattle.iso_isolation.proofs.Changes.{on_put, put_here}
use Rattle.iso_isolation.specs.Events as E
use Rattle.iso_isolation.specs.Events.{after}
use Rattle.iso_isolation.specs.Histories.{IsHistory}
use Rattle.iso_isolation.specs.States as S
use Rattle.iso_isolation.specs.States.{is_at_rest, is_held}
use Rattle.iso_lifecycle.specs.ResultViews.{ResultsView}
use Rattle.iso_lifecycle.specs.Subjects.{started}
use Rattle.iso_locks.specs.Trays.{is_lent}
use Rattle.iso_locks.specs.Vaults.{VaultView}
use Rattle.iso_model.specs.Resources.{Resources}
use Rattle.iso_plan.specs.Paths.{IsTree, is_test, row_at}
use Rattle.iso_plan.specs.Planned.{Planned}
use Rattle.iso_plan.specs.RowView.{tree_of}
use Rattle.iso_plan.specs.Tree.{Kind, root, class_node, test_node}
use Rattle.iso_standing.specs.CodeEvents.{events_of}
use Rattle.iso_standing.specs.Phases.{phase_of}
use Rattle.iso_standing.specs.ResultStates.{AreResultsOf}
use Rattle.iso_standing.specs.Standings.{LooksLike, OfSame, Standing, after_in}
use Rattle.iso_standing.specs.declared.event.Event.TheVariants as Code
use Rattle.iso_suites.proofs.SuiteLaws.{positive}
use Rattle.iso_suites.specs.PlanSuites.{head_of, suite_of}
use Rattle.iso_suites.specs.ScriptLanguage.{is_of_test, scripts}
use Rattle.iso_suites.specs.SuiteStates.{RunState}

rests-held : (x : NodeStatus) → is_at_rest x ≡ true → is_held x ≡ true
rests-held S.Waiting e = absurd cc
rests-held (S.Begun c) e = absurd cc
rests-held (S.Open fs) e = refl
rests-held (S.Barred fs) e = refl
rests-held (S.Closing fs c) e = absurd cc
rests-held (S.Finished o) e = absurd cc

rests-weighs : (x : NodeStatus) → is_at_rest x ≡ true → weight (phase_of x) ≡ 2
rests-weighs S.Waiting e = absurd cc
rests-weighs (S.Begun c) e = absurd cc
rests-weighs (S.Open fs) e = refl
rests-weighs (S.Barred fs) e = refl
rests-weighs (S.Closing fs c) e = absurd cc
rests-weighs (S.Finished o) e = absurd cc

untested : (k : Kind) → is_of_test (head_of k) ≡ false → is_test k ≡ false
untested root e = refl
untested (class_node isolated head) e = refl
untested (test_node head) e = absurd cc

module _ (b : BookView) (v : Standing) (vault : VaultView) (r : ResultsView) (room : ℕ) (is : IsBook b v vault r room) (tree : IsTree (tree_of b.plan))
    (w n : ℕ) (allowed : refusal_in b (Code.Shut w n) ≡ None) where
  abbrev s : RunState
  s = state_in b

  may : MayShut scripts (suite_in b) b.workers s n
  may = may-shut b w n allowed

  pub inner : 0 < n
  inner = positive n may.nonzero

  pub within : n < length b.plan.rows
  within = within-shut b w n allowed

  pub rests : is_at_rest (s.nodes.status n) ≡ true
  rests = may.rests

  pub class : is_test (row_at (tree_of b.plan) n).kind ≡ false
  class = untested (row_at (tree_of b.plan) n).kind may.class

  -- two events may still come of it
  pub due : 2 ≤ left_in b
  due = let two = rests-weighs (s.nodes.status n) rests in let some = among s (length b.plan.rows) n within in omega arith

  abbrev t : RunState
  t = after scripts (suite_in b) s (E.Shut w n)

  lent-next : (m : ℕ) → 0 < m → m < length b.plan.rows → is_lent vault.lent m ≡ is_held (t.nodes.status m)
  lent-next m p h =
      on_put (λ (j : ℕ) (x : NodeStatus). 0 < j → j < length b.plan.rows → is_lent vault.lent j ≡ is_held x) n _ s.nodes.status m
      (λ pos inside. is.lent n pos inside ∙ rests-held (s.nodes.status n) rests) (λ ne pos inside. is.lent m pos inside) p h

  fewer : left_below t (length b.plan.rows) < left_in b
  fewer =
      let was : weight-at s n ≡ 2 = rests-weighs (s.nodes.status n) rests in
      one-less s t (length b.plan.rows) n within
      (let here : weight-at t n ≡ 1 = ap (λ (x : NodeStatus). weight (phase_of x)) (put_here n _ s.nodes.status) in omega arith)
      (λ m h. on_put (λ (j : ℕ) (x : NodeStatus). weight (phase_of x) ≤ weight-at s j) n _ s.nodes.status m (omega arith) (λ ne. omega arith))

  -- the history with it, and the state that this gives
  pub history-shut : IsHistory scripts (suite_in b) b.workers (events_of (with_event b (Code.Shut w n)).history)
  history-shut = history-next b (Code.Shut w n) refl (λ q. refl) allowed (unstopped-shut b w n allowed) tree is.history

  pub state-shut : state_in (with_event b (Code.Shut w n)) ≡ t
  state-shut = state-next b (Code.Shut w n) refl (λ q. refl) allowed (unstopped-shut b w n allowed) tree is.history

  -- the book's parts after it
  pub shut : (u : Standing) → OfSame v u → ((start : Resources) (q : RunState) → LooksLike v q → LooksLike u (after_in v start q (E.Shut w n)))
      → AreResultsOf r (E.shutting scripts (suite_in b) n s.nodes) → StandsAfter b v vault r room is t u vault r
  shut u same taken are = record {
    standing = same;
    stands = subst (λ (p : Planned). LooksLike u (after scripts (suite_of (tree_of p) p.settings (started b.world)) s (E.Shut w n))) is.standing_plan
        (taken (started b.world) s is.stands);
    vault_plan = refl;
    vault_world = refl;
    lent_fits = refl;
    root = refl;
    lent = lent-next;
    results_plan = refl;
    results_world = refl;
    are = are;
    fewer = fewer;
  }
