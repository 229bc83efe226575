use Rattle.std.proofs.Common.{◌≡◌, ◌++◌, take}
use Rattle.iso_waits.specs.Sums.{sums_of}
use Rattle.iso_waits.proofs.sums.append.Given as goal

abbrev pub invariant-loop-lock : goal.invariant-loop-lock
invariant-loop-lock l = l.all.items ≡ l.fn.all.items ++ sums_of l.node l.sums (take l.lock-index l.locks)
