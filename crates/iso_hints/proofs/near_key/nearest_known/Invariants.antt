use Rattle.std.proofs.Common.{◌≡◌, None, drop, map, option_map}
use Rattle.iso_hints.specs.NearKeys.{measured, nearest_from}
use Rattle.iso_hints.proofs.near_key.nearest_known.Given as goal

abbrev pub invariant-loop-other : goal.invariant-loop-other
invariant-loop-other l =
    nearest_from l.key (option_map measured l.best) (map (λ k. k.now) (drop l.other-index l.known)) ≡ nearest_from l.key None (map (λ k. k.now) l.known)
