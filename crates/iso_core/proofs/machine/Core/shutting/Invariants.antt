use Rattle.std.proofs.Common.{ℕ, ◌<◌}
use Rattle.iso_core.specs.Progress.{Refuses, shut_by_owner}
use Rattle.iso_core.proofs.machine.Core.shutting.Given as goal

abbrev pub invariant-nodes : goal.invariant-nodes
invariant-nodes l = (n : ℕ) → 0 < n → n < l.node → Refuses l.self (shut_by_owner l.self n)
