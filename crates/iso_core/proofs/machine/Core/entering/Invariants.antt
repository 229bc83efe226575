use Rattle.std.proofs.Common.{ℕ, ◌<◌}
use Rattle.iso_core.specs.Progress.{Refuses, entered_by_owner}
use Rattle.iso_core.proofs.machine.Core.entering.Given as goal

abbrev pub invariant-nodes : goal.invariant-nodes
invariant-nodes l = (n : ℕ) → 0 < n → n < l.node → Refuses l.self (entered_by_owner l.self n)
