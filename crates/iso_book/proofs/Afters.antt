-- What every book is, holds after an event that its parts have followed.
use Rattle.std.proofs.Common.{◌≡◌, ℕ, ◌<◌, ◌≤◌, ◌+◌, List, [], ◌∷◌, ◌++◌, Bool, true, length, sym, ap, ◌∙◌, subst, arith}
use Rattle.std.proofs.lemmas.List.{length-append}
use Rattle.iso_book.proofs.Runs.{book_of}
use Rattle.iso_book.specs.Books.{BookView, IsBook, left_below, left_in, state_in, suite_in, with_event}
use Rattle.iso_isolation.specs.Events.{stop}
use Rattle.iso_isolation.specs.Histories.{IsHistory}
use Rattle.iso_isolation.specs.States.{is_held}
use Rattle.iso_lifecycle.specs.ResultViews.{ResultsView}
use Rattle.iso_locks.specs.Trays.{is_lent}
use Rattle.iso_locks.specs.Vaults.{VaultView}
use Rattle.iso_standing.specs.CodeEvents.{events_of}
use Rattle.iso_standing.specs.ResultStates.{AreResultsOf}
use Rattle.iso_standing.specs.Standings.{LooksLike, OfSame, Standing}
use Rattle.iso_standing.specs.declared.event.Event.{Event}
use Rattle.iso_suites.specs.ScriptLanguage.{scripts}
use Rattle.iso_suites.specs.SuiteStates.{RunState}

module _ (b : BookView) (v : Standing) (vault : VaultView) (r : ResultsView) (room : ℕ) (is : IsBook b v vault r room) where
  -- its parts stand as in a state in which fewer events may come
  pub record StandsAfter (s : RunState) (u : Standing) (rest : VaultView) (results : ResultsView) : Type 0 where
    pub standing : OfSame v u
    pub stands : LooksLike u s
    pub vault_plan : rest.plan ≡ vault.plan
    pub vault_world : rest.world ≡ vault.world
    pub lent_fits : length rest.lent ≡ length vault.lent
    pub root : is_lent rest.lent 0 ≡ is_lent vault.lent 0
    pub lent : (n : ℕ) → 0 < n → n < length b.plan.rows → is_lent rest.lent n ≡ is_held (s.nodes.status n)
    pub results_plan : results.plan ≡ r.plan
    pub results_world : results.start ≡ r.start
    pub are : AreResultsOf results s.nodes
    pub fewer : left_below s (length b.plan.rows) < left_in b

  -- there is room for an event while one may come
  pub has-room : (least : ℕ) → least ≤ left_in b → 0 < least → length b.history < room
  has-room least some pos = let all = is.bounded in let enough = is.room in omega arith

  module _ (e : Event) (s : RunState) (u : Standing) (rest : VaultView) (results : ResultsView) (on : StandsAfter s u rest results)
      (history : IsHistory scripts (suite_in b) b.workers (events_of (b.history ++ e ∷ []))) (next : state_in (with_event b e) ≡ s) where
    -- what every book is, it is with the event
    book-next : IsBook (with_event b e) u rest results room
    book-next = record {
      history = history;
      standing_plan = on.standing.plan ∙ is.standing_plan;
      workers = on.standing.workers ∙ is.workers;
      stands = subst (λ (q : RunState). LooksLike u q) (sym next) on.stands;
      vault_plan = on.vault_plan ∙ is.vault_plan;
      vault_world = on.vault_world ∙ is.vault_world;
      lent_fits = on.lent_fits ∙ is.lent_fits;
      root = on.root ∙ is.root;
      lent = λ n pos inside. on.lent n pos inside ∙ ap (λ (q : RunState). is_held (q.nodes.status n)) (sym next);
      results_plan = on.results_plan ∙ is.results_plan;
      results_world = on.results_world ∙ is.results_world;
      results_are = subst (λ (q : RunState). AreResultsOf results q.nodes) (sym next) on.are;
      bounded =
          let left : left_in (with_event b e) ≡ left_below s (length b.plan.rows) = ap (λ (q : RunState). left_below q (length b.plan.rows)) next in
          let more : length (b.history ++ e ∷ []) ≡ length b.history + 1 = length-append b.history (e ∷ []) in
          let all = is.bounded in
          let less = on.fewer in
          omega arith;
      room = is.room;
    }

    -- what contracts see of it then
    pub view-next : (items : List Event) → items ≡ b.history ++ e ∷ [] → book_of b.plan b.world b.workers u.stopped items ≡ with_event b e
    view-next items all =
        ap (book_of b.plan b.world b.workers u.stopped) all
        ∙ ap (λ (t : Bool). book_of b.plan b.world b.workers t (b.history ++ e ∷ [])) (sym on.stands.stopped ∙ sym (ap (λ (q : RunState). q.stopped) next))

    pub book-as : (items : List Event) → items ≡ b.history ++ e ∷ [] → IsBook (book_of b.plan b.world b.workers u.stopped items) u rest results room
    book-as items all = subst (λ (c : BookView). IsBook c u rest results room) (sym (view-next items all)) book-next

  module _ (u : Standing) (same : OfSame v u) (stands : (s : RunState) → LooksLike v s → LooksLike u (stop s)) where
    -- and so it is once it was stopped
    book-stopped : IsBook (record b { stopped = true }) u vault r room
    book-stopped = record {
      history = is.history;
      standing_plan = same.plan ∙ is.standing_plan;
      workers = same.workers ∙ is.workers;
      stands = stands (state_in b) is.stands;
      vault_plan = is.vault_plan;
      vault_world = is.vault_world;
      lent_fits = is.lent_fits;
      root = is.root;
      lent = is.lent;
      results_plan = is.results_plan;
      results_world = is.results_world;
      results_are = is.results_are;
      bounded = is.bounded;
      room = is.room;
    }

    pub view-stopped : book_of b.plan b.world b.workers u.stopped b.history ≡ record b { stopped = true }
    view-stopped = ap (λ (t : Bool). book_of b.plan b.world b.workers t b.history) (sym (stands (state_in b) is.stands).stopped)

    pub stopped-as : IsBook (book_of b.plan b.world b.workers u.stopped b.history) u vault r room
    stopped-as = subst (λ (c : BookView). IsBook c u vault r room) (sym view-stopped) book-stopped
