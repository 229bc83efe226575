use Rattle.std.proofs.Common.{map, flat_map, take}
use Rattle.iso_html.specs.Bars.{lock_marks}
use Rattle.iso_html.specs.Lists.{AreLonger}
use Rattle.iso_html.proofs.takers.add_locks.Given as goal

abbrev pub invariant-locks : goal.invariant-locks
invariant-locks l =
    AreLonger (map (λ v. v.items) l.fn.takers.items) (map (λ v. v.items) l.takers.items) (λ key. flat_map (lock_marks key l.stay) (take l.lock-index l.locks))
