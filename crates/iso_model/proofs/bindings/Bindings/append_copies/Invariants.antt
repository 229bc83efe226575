use Rattle.std.proofs.Common.{◌≡◌, ◌++◌, take}
use Rattle.iso_model.proofs.bindings.Bindings.append_copies.Given as goal

abbrev pub invariant-loop-place : goal.invariant-loop-place
invariant-loop-place l = l.self ≡ l.fn.self ++ take l.place l.more
