-- When all nodes of a book are finished.
use Rattle.std.proofs.Common.{◌≡◌, ℕ, ◌<◌, Option, Some, None, Bool, true, false, ◌&&◌, not, is_some, length, refl, ap, ◌∙◌, arith}
use Rattle.std.proofs.lemmas.Bool.{ne_eqb}
use Rattle.iso_book.specs.Books.{BookView, is_complete, state_in, suite_in}
use Rattle.iso_isolation.proofs.Changes.{none_below}
use Rattle.iso_isolation.specs.Refusals.{is_root, lowest_below}
use Rattle.iso_isolation.specs.States.{is_finished}
use Rattle.iso_lifecycle.specs.ResultViews.{AreComplete, ResultsView}
use Rattle.iso_plan.specs.Planned.{Planned}
use Rattle.iso_standing.proofs.Looks.{nodes-are}
use Rattle.iso_standing.specs.ResultStates.{AreResultsOf}

none-of : (o : Option ℕ) → not (is_some o) ≡ true → o ≡ None
none-of None e = refl
none-of (Some n) e = absurd cc

left-over : (a b : Bool) → (not a && not b) ≡ false → a ≡ false → b ≡ true
left-over true b e f = absurd cc
left-over false true e f = refl
left-over false false e f = absurd cc

module _ (b : BookView) where
  abbrev is_left : ℕ → Bool
  is_left n = not (is_root n) && not (is_finished ((state_in b).nodes.status n))

  all-finished : is_complete b ≡ true → (n : ℕ) → 0 < n → n < length b.plan.rows → is_finished ((state_in b).nodes.status n) ≡ true
  all-finished h n pos inside =
      let count = nodes-are b.plan in
      let nothing = none-of (lowest_below (suite_in b).nodes is_left) h in
      let root : is_root n ≡ false = ne_eqb n 0 (λ e. absurd (omega arith)) in
      left-over (is_root n) (is_finished ((state_in b).nodes.status n)) (none_below (suite_in b).nodes is_left nothing n (omega (arith, inside, count))) root

  pub all-results : (r : ResultsView) → r.plan ≡ b.plan → AreResultsOf r (state_in b).nodes → is_complete b ≡ true → AreComplete r
  all-results r plan are h n pos inside =
      let rows = ap (λ (p : Planned). length p.rows) plan in
      are.finished n pos inside ∙ all-finished h n pos (omega (arith, rows, inside))
