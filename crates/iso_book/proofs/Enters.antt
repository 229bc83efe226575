-- An Enter that nothing refuses.
use Rattle.std.proofs.Common.{◌≡◌, ℕ, zero, suc, ◌<◌, ◌≤◌, Option, Some, None, Bool, true, false, cond, ◌&&◌, length, inl, inr, refl, sym, ap, ◌∙◌, subst, arith}
use Rattle.std.proofs.lemmas.List.{get_or-set_same, get_or-set_other, length-set}
use Rattle.std.specs.Option.{option_map, option_or}
use Rattle.iso_book.proofs.Afters.{StandsAfter}
use Rattle.iso_book.proofs.Runs.{history-next, lock-free, may-enter, state-next, unstopped-enter}
use Rattle.iso_book.proofs.Weights.{among, one-less, weight-at}
use Rattle.iso_book.specs.Books.{BookView, IsBook, left_below, left_in, refusal_in, state_in, suite_in, weight, with_event}
use Rattle.iso_book.specs.Turns.{MayEnterWith}
use Rattle.iso_isolation.proofs.Changes.{equal_or_not, none_below, on_put, put_here}
use Rattle.iso_isolation.proofs.LockEvents.{MayEnter}
use Rattle.iso_isolation.specs.Events as E
use Rattle.iso_isolation.specs.Events.{after}
use Rattle.iso_isolation.specs.Histories.{IsHistory}
use Rattle.iso_isolation.specs.Refusals as Why
use Rattle.iso_isolation.specs.Refusals.{lowest_below}
use Rattle.iso_isolation.specs.States.{Status, is_held, is_open, is_waiting}
use Rattle.iso_lifecycle.specs.ResultViews.{ResultsView}
use Rattle.iso_lifecycle.specs.Subjects.{started}
use Rattle.iso_locks.specs.Trays.{TrayView, is_lent}
use Rattle.iso_locks.specs.Vaults.{CanLend, VaultView, busy, lending}
use Rattle.iso_model.specs.Bodies.{Stage}
use Rattle.iso_model.specs.Openings.{Frame}
use Rattle.iso_model.specs.Resources.{Resources}
use Rattle.iso_model.specs.declared.outcome.Outcome.{Outcome}
use Rattle.iso_plan.specs.Conflicts.{is_in_the_way, lowest}
use Rattle.iso_plan.specs.Locks.{conflict}
use Rattle.iso_plan.specs.Paths.{IsTree}
use Rattle.iso_plan.specs.Planned.{Planned}
use Rattle.iso_plan.specs.RowView.{tree_of}
use Rattle.iso_standing.proofs.Looks.{nodes-are}
use Rattle.iso_standing.specs.CodeEvents.{events_of}
use Rattle.iso_standing.specs.Phases.{phase_of}
use Rattle.iso_standing.specs.ResultStates.{AreResultsOf}
use Rattle.iso_standing.specs.Standings.{LooksLike, OfSame, Standing, after_in}
use Rattle.iso_standing.specs.declared.event.Event.TheVariants as Code
use Rattle.iso_suites.proofs.SuiteLaws.{positive}
use Rattle.iso_suites.specs.PlanSuites.{suite_of}
use Rattle.iso_suites.specs.ScriptLanguage.{scripts}
use Rattle.iso_suites.specs.SuiteStates.{RunState}

abbrev pub NodeStatus : Type 0
NodeStatus = Status Stage Frame Outcome

lowest-none : (test : ℕ → Bool) (n : ℕ) → ((m : ℕ) → m < n → test m ≡ false) → lowest test n ≡ None
lowest-none test zero fails = refl
lowest-none test (suc n) fails =
    ap (λ (o : Option ℕ). option_or o (cond (test n) (Some n) None)) (lowest-none test n (λ m h. fails m (omega arith)))
    ∙ ap (λ (b : Bool). cond b (Some n) None) (fails n (omega arith))

no-lock : (o : Option ℕ) → option_map (λ (m : ℕ). Why.LockHeld m) o ≡ None → o ≡ None
no-lock None e = refl
no-lock (Some n) e = absurd cc

and-false : (a b : Bool) → a ≡ false → (a && b) ≡ false
and-false true b e = absurd cc
and-false false b e = refl

module _ (b : BookView) (v : Standing) (vault : VaultView) (r : ResultsView) (room : ℕ) (is : IsBook b v vault r room) (tree : IsTree (tree_of b.plan))
    (w n : ℕ) (allowed : refusal_in b (Code.Enter w n) ≡ None) where
  abbrev s : RunState
  s = state_in b

  may : MayEnter (suite_in b) s.nodes.status n
  may = may-enter b w n allowed tree

  pub inner : 0 < n
  inner = positive n may.nonzero

  pub within : n < length b.plan.rows
  within = let count = nodes-are b.plan in let h = may.inside in omega arith

  pub waiting : is_waiting (s.nodes.status n) ≡ true
  waiting = ap is_waiting may.waiting

  pub around : is_open (s.nodes.status ((suite_in b).parent n)) ≡ true
  around = may.parent

  -- it may be lent to the tray
  pub can-lend : (t : TrayView) → MayEnterWith b n t → CanLend n vault t
  can-lend t own = record {
    node = subst (λ (j : Planned). n < length j.rows) (sym is.vault_plan) within;
    plan = own.own.plan ∙ sym is.vault_plan;
    world = own.own.world ∙ sym is.vault_world;
    free = is.lent n inner within ∙ ap is_held may.waiting;
    apart = own.holds.apart;
    beside = λ none m h. own.holds.beside m h;
  }

  -- no lent node is in the way
  free-at : (m : ℕ) → m < length b.plan.rows → is_in_the_way (tree_of b.plan) (is_lent vault.lent) n m ≡ false
  free-at m h = elim (equal_or_not m 0) [
    | inl z ↦ and-false (is_lent vault.lent m) (conflict (tree_of b.plan) m n) (ap (is_lent vault.lent) z ∙ is.root)
    | inr nz ↦
        let none = none_below (suite_in b).nodes (λ j. is_held (s.nodes.status j) && (suite_in b).conflict j n)
        (no-lock (lowest_below (suite_in b).nodes (λ j. is_held (s.nodes.status j) && (suite_in b).conflict j n)) (lock-free b w n allowed)) m
        (let count = nodes-are b.plan in omega arith) in
        ap (λ (x : Bool). x && conflict (tree_of b.plan) m n) (is.lent m (positive m nz) h) ∙ none
  ]

  pub lends : busy vault n ≡ None
  lends =
      ap (λ (p : Planned). lowest (is_in_the_way (tree_of p) (is_lent vault.lent) n) (length (tree_of p))) is.vault_plan
      ∙ lowest-none (is_in_the_way (tree_of b.plan) (is_lent vault.lent) n) (length (tree_of b.plan))
      (λ m h. free-at m (let count = nodes-are b.plan in omega (arith, h, count)))

  -- four events may still come of it
  pub due : 4 ≤ left_in b
  due = subst (λ (j : NodeStatus). weight (phase_of j) ≤ left_in b) may.waiting (among s (length b.plan.rows) n within)

  abbrev t : RunState
  t = after scripts (suite_in b) s (E.Enter w n)

  lent-next : (m : ℕ) → 0 < m → m < length b.plan.rows → is_lent (lending n vault).lent m ≡ is_held (t.nodes.status m)
  lent-next m p h =
      on_put (λ (j : ℕ) (x : NodeStatus). j < length b.plan.rows → is_lent (lending n vault).lent j ≡ is_held x) n _ s.nodes.status m
      (λ q. get_or-set_same vault.lent n true false (let fit = is.lent_fits in omega arith))
      (λ ne q. get_or-set_other vault.lent n m true false ne ∙ is.lent m p h) h

  fewer : left_below t (length b.plan.rows) < left_in b
  fewer =
      one-less s t (length b.plan.rows) n within
      (let here : weight-at t n ≡ 3 = ap (λ (x : NodeStatus). weight (phase_of x)) (put_here n _ s.nodes.status) in
      let was : weight-at s n ≡ 4 = ap (λ (x : NodeStatus). weight (phase_of x)) may.waiting in
      omega arith)
      (λ m h. on_put (λ (j : ℕ) (x : NodeStatus). weight (phase_of x) ≤ weight-at s j) n _ s.nodes.status m
      (let was : weight-at s n ≡ 4 = ap (λ (x : NodeStatus). weight (phase_of x)) may.waiting in omega arith)
      (λ ne. omega arith))

  -- the history with it, and the state that this gives
  pub history-entered : IsHistory scripts (suite_in b) b.workers (events_of (with_event b (Code.Enter w n)).history)
  history-entered = history-next b (Code.Enter w n) refl (λ q. refl) allowed (unstopped-enter b w n allowed) tree is.history

  pub state-entered : state_in (with_event b (Code.Enter w n)) ≡ t
  state-entered = state-next b (Code.Enter w n) refl (λ q. refl) allowed (unstopped-enter b w n allowed) tree is.history

  -- the book's parts after it
  pub entered : (u : Standing) → OfSame v u → ((start : Resources) (q : RunState) → LooksLike v q → LooksLike u (after_in v start q (E.Enter w n)))
      → AreResultsOf r (E.entering scripts (suite_in b) n s.nodes) → StandsAfter b v vault r room is t u (lending n vault) r
  entered u same taken are = record {
    standing = same;
    stands = subst (λ (p : Planned). LooksLike u (after scripts (suite_of (tree_of p) p.settings (started b.world)) s (E.Enter w n))) is.standing_plan
        (taken (started b.world) s is.stands);
    vault_plan = refl;
    vault_world = refl;
    lent_fits = length-set vault.lent n true;
    root = get_or-set_other vault.lent n 0 true false (λ z. may.nonzero (sym z));
    lent = lent-next;
    results_plan = refl;
    results_world = refl;
    are = are;
    fewer = fewer;
  }
