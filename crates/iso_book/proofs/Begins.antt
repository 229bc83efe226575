-- A new book.
use Rattle.std.proofs.Common.{◌≡◌, ℕ, zero, suc, ◌<◌, ◌≤◌, ◌*◌, [], false, length, refl, sym, ap, ◌∙◌, subst, arith}
use Rattle.std.proofs.lemmas.List.{get_or-replicate, length-replicate}
use Rattle.iso_book.proofs.Enters.{NodeStatus}
use Rattle.iso_book.proofs.Runs.{book_of, going-on}
use Rattle.iso_book.proofs.Weights.{weight-at}
use Rattle.iso_book.specs.Books.{IsBook, left_below, left_in, state_in, weight}
use Rattle.iso_isolation.proofs.Changes.{on_put, put_elsewhere}
use Rattle.iso_isolation.specs.States as S
use Rattle.iso_isolation.specs.States.{first, is_held}
use Rattle.iso_lifecycle.specs.ResultViews.{ResultsView, no_results}
use Rattle.iso_lifecycle.specs.Subjects.{started}
use Rattle.iso_locks.specs.Trays.{is_lent}
use Rattle.iso_locks.specs.Vaults.{VaultView, whole_vault}
use Rattle.iso_model.specs.Resources.{Resources}
use Rattle.iso_plan.specs.Planned.{Planned}
use Rattle.iso_plan.specs.RowView.{tree_of}
use Rattle.iso_settings.specs.Worlds.{Start}
use Rattle.iso_standing.specs.Phases.{phase_of}
use Rattle.iso_standing.specs.ResultStates.{AreResultsOf}
use Rattle.iso_standing.specs.Standings.{LooksLike, Standing, first_in, workers_in}
use Rattle.iso_suites.specs.PlanSuites.{suite_of}
use Rattle.iso_suites.specs.ScriptLanguage.{scripts}
use Rattle.iso_suites.specs.SuiteStates.{RunState, suite_at}

-- the first state has four events at most left for each node
left-first : (plan : Planned) (world : Start) (n : ℕ) → left_below (first scripts (suite_at plan world)) n ≤ n * 4
left-first plan world zero = omega arith
left-first plan world (suc n) =
    let below = left-first plan world n in
    let here : weight-at (first scripts (suite_at plan world)) n ≤ 4 =
    on_put (λ (j : ℕ) (x : NodeStatus). weight (phase_of x) ≤ 4) 0 (S.Open []) (λ m. S.Waiting) n (omega arith) (λ ne. omega arith) in
    omega arith

pub book-begins : (plan : Planned) (world : Start) (workers : ℕ) (v : Standing) (vault : VaultView) (r : ResultsView) (room : ℕ)
    → 0 < length plan.rows → v.plan ≡ plan → workers_in v ≡ workers → ((start : Resources) → LooksLike v (first_in v start))
    → vault ≡ whole_vault plan world → r ≡ no_results plan world → AreResultsOf (no_results plan world) (first scripts (suite_at plan world)).nodes
    → 4 * length plan.rows ≤ room → IsBook (book_of plan world workers v.stopped []) v vault r room
book-begins plan world workers v vault r room rooted of_plan of_workers stands whole empty are enough =
    let s = first scripts (suite_at plan world) in
    let like : LooksLike v s = subst (λ (p : Planned). LooksLike v (first scripts (suite_of (tree_of p) p.settings (started world)))) of_plan (stands (started world)) in
    let state : state_in (book_of plan world workers v.stopped []) ≡ s = going-on (book_of plan world workers v.stopped []) (sym like.stopped) in
    record {
      history = record { no_step = refl; run = refl };
      standing_plan = of_plan;
      workers = of_workers;
      stands = subst (λ (q : RunState). LooksLike v q) (sym state) like;
      vault_plan = ap (λ (q : VaultView). q.plan) whole;
      vault_world = ap (λ (q : VaultView). q.world) whole;
      lent_fits = ap (λ (q : VaultView). length q.lent) whole ∙ length-replicate (length plan.rows) false;
      root = ap (λ (q : VaultView). is_lent q.lent 0) whole ∙ get_or-replicate (length plan.rows) 0 false false rooted;
      lent = λ m p h.
          ap (λ (q : VaultView). is_lent q.lent m) whole
          ∙ get_or-replicate (length plan.rows) m false false h
          ∙ sym (ap (λ (q : RunState). is_held (q.nodes.status m)) state ∙ ap is_held (put_elsewhere m 0 (S.Open []) (λ j. S.Waiting) (λ z. absurd (omega arith))));
      results_plan = ap (λ (q : ResultsView). q.plan) empty;
      results_world = ap (λ (q : ResultsView). q.start) empty;
      results_are = subst (λ (q : RunState). AreResultsOf r q.nodes) (sym state) (subst (λ (q : ResultsView). AreResultsOf q s.nodes) (sym empty) are);
      bounded =
          let left : left_in (book_of plan world workers v.stopped []) ≡ left_below s (length plan.rows) = ap (λ (q : RunState). left_below q (length plan.rows)) state in
          let most = left-first plan world (length plan.rows) in
          omega arith;
      room = enough;
    }
