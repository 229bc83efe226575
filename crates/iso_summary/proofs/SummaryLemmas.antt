-- The entries of a summary, one by one.
use Rattle.std.proofs.Common.{◌≡◌, ℕ, ◌+◌, ◌<◌, ◌≤◌, List, ◌++◌, length, get_or, drop, map, ap₂, ◌∙◌, append_assoc}
use Rattle.std.proofs.lemmas.List.{at_drop_all}
use Rattle.iso_model.specs.declared.outcome.Outcome.{Outcome}
use Rattle.iso_plan.specs.Tree.{Row}
use Rattle.iso_summary.specs.Summaries.{entries_text, entry_text}
use Rattle.iso_summary.specs.Views.{AgainView, located_of}
use Rattle.iso_summary.specs.declared.located.Located.{Located}
use Rattle.iso_tap.proofs.PrinterLemmas.{drop_next}

module _ (tree : List Row) (outcome : ℕ → Outcome) (again : AgainView) (ns : List ℕ) (ps : List Located) (last : List ℕ) where
  -- the entries from one on, and what comes after them
  abbrev pub rest : ℕ → List ℕ
  rest i = entries_text tree outcome again (drop i ns) (map located_of (drop i ps)) ++ last

  abbrev of : List ℕ → List Located → List ℕ
  of ms qs = entries_text tree outcome again ms (map located_of qs) ++ last

  -- an entry, and the rest
  pub rest-next : (i d : ℕ) (e : Located) → i < length ns → i < length ps
      → rest i ≡ entry_text tree outcome again (get_or ns i d) (located_of (get_or ps i e)) ++ rest (i + 1)
  rest-next i d e here there =
      ap₂ of (drop_next ns i d here) (drop_next ps i e there)
      ∙ append_assoc (entry_text tree outcome again (get_or ns i d) (located_of (get_or ps i e))) (entries_text tree outcome again (drop (i + 1) ns) (map located_of (drop (i + 1) ps))) last

  -- after the last entry
  pub rest-end : (i : ℕ) → length ns ≤ i → rest i ≡ last
  rest-end i h = at_drop_all (λ (ms : List ℕ). of ms (drop i ps)) ns i h
