use Rattle.std.proofs.Common.{◌≡◌, ◌<◌, ℕ, [], drop, take, get_or, length, map, false}
use Rattle.std.specs.List.{position_from}
use Rattle.iso_plan.specs.Paths.{is_root}
use Rattle.iso_selection.proofs.NamedLemmas.{so_far}
use Rattle.iso_selection.specs.Wishes.{is_in_vain, wish_of}
use Rattle.iso_selection.proofs.named.named_by.Given as goal

abbrev pub invariant-wanted : goal.invariant-wanted
invariant-wanted l = record {
  each : length l.named.items ≡ length l.paths;
  marked : (n : ℕ) → n < length l.paths → get_or l.named.items n false ≡ so_far (is_root n) (get_or l.paths n []) (map wish_of l.wanted) (take l.index (map wish_of l.wanted));
  vain : position_from (is_in_vain (drop 1 l.paths)) l.index (drop l.index (map wish_of l.wanted)) ≡ position_from (is_in_vain (drop 1 l.paths)) 0 (map wish_of l.wanted);
}
