-- Classes in turn, as lists have them by the nodes' numbers.
use Rattle.std.proofs.Common.{◌≡◌, ℕ, ◌+◌, ◌%◌, ◌<◌, List, Some, length, get_or, Bool, false, ◌&&◌, ◌==◌, ap, ap₂, ◌∙◌}
use Rattle.std.proofs.lemmas.List.{get_or_default}
use Rattle.std.specs.List.{list_any, range_with_len}
use Rattle.iso_plan.proofs.ColumnLemmas.{column-from, column-read, length-column}
use Rattle.iso_plan.specs.Paths.{column}
use Rattle.iso_plan.specs.KeptNodes.{number_among}
use Rattle.iso_plan.specs.TopClasses.{all_top_classes, top_class}
use Rattle.iso_plan.specs.Tree.{Row}
use Rattle.iso_selection.proofs.NodeLemmas.{any-below}
use Rattle.iso_selection.specs.Shards.{holds, is_in}
use Rattle.iso_selection.specs.declared.shard.Shard.{Shard}

module _ (tree : List Row) (passes : ℕ → Bool) (classes : List ℕ) (named : List Bool) (are : classes ≡ all_top_classes tree) (marked : named ≡ column passes (length tree)) where
  pub count-is : length classes ≡ length tree
  count-is = ap length are ∙ length-column (top_class tree) (length tree)

  -- what holds a named node, by lists
  pub held-is : (held : List Bool) → length held ≡ length classes
      → ((m : ℕ) → get_or held m false ≡ list_any (λ k. get_or named k false && (get_or classes k 0 == m)) (range_with_len 0 (length classes))) → held ≡ column (holds tree passes) (length tree)
  held-is held each so =
      column-from (holds tree passes) held (length tree) (each ∙ count-is)
      (λ m d h.
      let within : m < length held = rw (each ∙ count-is) h in
      get_or_default held m d false within ∙ so m ∙ ap (λ (k : ℕ). list_any (λ j. get_or named j false && (get_or classes j 0 == m)) (range_with_len 0 k)) count-is
      ∙ any-below (λ k. get_or named k false && (get_or classes k 0 == m)) (λ k. passes k && (top_class tree k == m)) (length tree)
      (λ k low. ap₂ (λ (b : Bool) (c : ℕ). b && (c == m)) (column-read passes named (length tree) k false marked low) (column-read (top_class tree) classes (length tree) k 0 are low)))

  -- and whose turn it is
  pub turn-is : (held : List Bool) (places : List ℕ) (shard : Shard) (n place class : ℕ) (d e : ℕ) → n < length tree → held ≡ column (holds tree passes) (length tree)
      → places ≡ column (number_among (holds tree passes)) (length held) → class ≡ get_or classes n d → class < length held → place ≡ get_or places class e
      → (get_or named n false && (place % shard.count + 1 == shard.index)) ≡ (passes n && is_in tree passes (Some shard) n)
  turn-is held places shard n place class d e low held_are are_places is within at =
      let own : class ≡ top_class tree n = is ∙ column-read (top_class tree) classes (length tree) n d are low in
      let before : place ≡ number_among (holds tree passes) (top_class tree n) =
      at ∙ column-read (number_among (holds tree passes)) places (length held) class e are_places within ∙ ap (number_among (holds tree passes)) own in
      ap₂ (λ (b : Bool) (p : ℕ). b && (p % shard.count + 1 == shard.index)) (column-read passes named (length tree) n false marked low) before
