use Rattle.std.proofs.Common.{◌≡◌, ◌++◌, drop}
use Rattle.iso_model.proofs.bindings.Bindings.copies_past.Given as goal

abbrev pub invariant-loop-place : goal.invariant-loop-place
invariant-loop-place l = l.copies.items ++ drop l.place l.self ≡ drop l.count l.self
