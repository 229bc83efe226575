-- The nodes that a summary tells of.
use Rattle.std.proofs.Common.{◌≡◌, ◌<◌, ◌≤◌, ℕ, zero, suc, ◌+◌, List, [], ◌∷◌, ◌++◌, length, Bool, true, false, ◌&&◌, refl, sym, ap, ◌∙◌, arith, add-one, true≢false}
use Rattle.std.specs.List.{All}
use Rattle.iso_failures.specs.Nodes.{was_skipped}
use Rattle.iso_model.specs.declared.outcome.Outcome.{Outcome}
use Rattle.iso_plan.proofs.NumberLemmas.{those-are, those-next, those-skip}
use Rattle.iso_plan.specs.Paths.{is_test, row_at}
use Rattle.iso_plan.specs.Planned.{Planned}
use Rattle.iso_plan.specs.KeptNodes.{those_below}
use Rattle.iso_plan.specs.Tree.{Row, root_row}
use Rattle.iso_summary.specs.Summaries.{IsNode}
use Rattle.iso_telling.specs.ToldNodes.{is_told}

-- the root is not told of
pub root-untold : (tree : List Row) (outcome : ℕ → Outcome) (skipped : Bool) → row_at tree 0 ≡ root_row → is_told tree outcome skipped 0 ≡ false
root-untold tree outcome true h = ap (λ (r : Row). is_test r.kind && was_skipped (outcome 0).verdict) h
root-untold tree outcome false h = refl

module _ (passes : ℕ → Bool) where
  above_root : (n : ℕ) → passes 0 ≡ false → passes n ≡ true → 0 < n
  above_root zero root passed = absurd (true≢false (sym passed ∙ root))
  above_root (suc n) root passed = omega arith

  -- the numbers that pass a test which the root doesn't are those of nodes
  pub those-nodes : (plan : Planned) (most : ℕ) → passes 0 ≡ false → most ≤ length plan.rows → All (IsNode plan) (those_below passes most)
  those-nodes plan most root fits = λ k d less.
      let at = those-are passes most k d less in
      let within = at.within in
      record { above = above_root _ root at.passed; within = omega arith }

  -- the list with a number more, and with one that doesn't pass
  pub told-more : (told after : List ℕ) (n : ℕ) → passes n ≡ true → told ≡ those_below passes n → after ≡ told ++ n ∷ [] → after ≡ those_below passes (n + 1)
  told-more told after n passed before more =
      more ∙ ap (λ (ns : List ℕ). ns ++ n ∷ []) before ∙ sym (ap (those_below passes) (add-one n) ∙ those-next passes n passed)

  pub told-same : (told : List ℕ) (n : ℕ) → passes n ≡ false → told ≡ those_below passes n → told ≡ those_below passes (n + 1)
  told-same told n failed before = before ∙ sym (ap (those_below passes) (add-one n) ∙ those-skip passes n failed)
