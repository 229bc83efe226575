use Rattle.std.proofs.Common.{◌≡◌, ◌&&◌, [], get_or, map, not}
use Rattle.iso_model.specs.NameSets.{is_among}
use Rattle.iso_plan.specs.Paths.{column, is_root}
use Rattle.iso_selection.specs.Wishes.{paths_in, wish_of}
use Rattle.iso_selection.proofs.named.named_by_paths.Given as goal

abbrev pub invariant-nodes : goal.invariant-nodes
invariant-nodes l = l.named.items ≡ column (λ n. not (is_root n) && is_among (paths_in (map wish_of l.wanted)) (get_or l.paths n [])) l.n
