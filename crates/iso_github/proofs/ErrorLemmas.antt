-- The errors of nodes, one by one.
use Rattle.std.proofs.Common.{◌≡◌, ◌<◌, ◌≤◌, ℕ, suc, ◌+◌, ◌-◌, List, [], ◌++◌, get_or, length, map, sym, ap, ap₂, ◌∙◌, arith}
use Rattle.std.proofs.lemmas.List.{get_or-map}
use Rattle.std.specs.List.{flat_map, range_with_len}
use Rattle.iso_junit.specs.Runs.{PlacedView, placed_of}
use Rattle.iso_junit.specs.declared.placed.Placed.{Placed}
use Rattle.iso_model.specs.declared.outcome.Outcome.{Outcome}
use Rattle.iso_model.specs.declared.outcome.Verdict.{Verdict}
use Rattle.iso_plan.specs.PathTexts.{path_text}
use Rattle.iso_plan.specs.Tree.{Row}
use Rattle.iso_github.specs.Errors.{error_of, errors_from, node_error}

module _ (tree : List Row) (outcome : ℕ → Outcome) (ps : List Placed) where
  abbrev places : List PlacedView
  places = map placed_of ps

  abbrev left : ℕ → ℕ → List ℕ
  left k n = flat_map (node_error tree outcome places) (range_with_len n k)

  -- a node's error, and those of the nodes after it
  errors_apart : (n : ℕ) → n < length tree → errors_from tree outcome places n ≡ node_error tree outcome places n ++ errors_from tree outcome places (n + 1)
  errors_apart n less = let e : length tree - n ≡ suc (length tree - (n + 1)) = omega arith in ap (λ (k : ℕ). left k n) e

  -- the same, where its place and its verdict are known
  pub errors-next : (n : ℕ) (d : Placed) (v : Verdict) → n < length tree → n < length ps → v ≡ (outcome n).verdict
      → errors_from tree outcome places n ≡ error_of (path_text tree n) (placed_of (get_or ps n d)) v ++ errors_from tree outcome places (n + 1)
  errors-next n d v less there is =
      errors_apart n less
      ∙ ap₂ (λ (p : PlacedView) (u : Verdict). error_of (path_text tree n) p u ++ errors_from tree outcome places (n + 1))
      (get_or-map placed_of ps n d (record { file = []; line = 0; ended = 0 }) there) (sym is)

  -- after the last node
  pub errors-end : (n : ℕ) → length tree ≤ n → errors_from tree outcome places n ≡ []
  errors-end n h = let e : length tree - n ≡ 0 = omega arith in ap (λ (k : ℕ). left k n) e
