use Rattle.std.proofs.Common.{◌≡◌, List, ℕ, drop, map, not}
use Rattle.std.specs.List.{position_from}
use Rattle.iso_model.specs.NameSets.{is_among}
use Rattle.iso_plan.specs.RowView.{row_of}
use Rattle.iso_plan.specs.KeptNodes.{first_unknown, node_paths, texts_of}
use Rattle.iso_plan.proofs.kept_nodes.check_known.Given as goal

abbrev pub invariant-only : goal.invariant-only
invariant-only l =
    position_from (λ (p : List ℕ). not (is_among (node_paths (map row_of l.rows)) p)) l.index (drop l.index (texts_of l.only)) ≡ first_unknown (map row_of l.rows) (texts_of l.only)
