use Rattle.std.proofs.Common.{subst}
use Rattle.iso_core.proofs.Isolating.{core-isolated}
use Rattle.iso_core.specs.Cores.{CoreView}
use Rattle.iso_core.specs.Isolation.{IsIsolated}
use Rattle.iso_core.proofs.machine.Core.is_isolated.Goals as goal

pub returns : goal.returns
returns c = subst (λ (v : CoreView). IsIsolated v) c.self.view_is (core-isolated _ c.nodes_are_a_tree.ensures c.self.invariant.run)
