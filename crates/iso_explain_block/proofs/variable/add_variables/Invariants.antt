use Rattle.std.proofs.Common.{◌≡◌, drop, map}
use Rattle.iso_explain_block.specs.Variables.{with_variables}
use Rattle.iso_explain_block.proofs.variable.add_variables.Given as goal

abbrev pub invariant-loop-variable : goal.invariant-loop-variable
invariant-loop-variable l =
    with_variables l.variables (map (λ n. n.now) l.fn.names.items) ≡ with_variables (drop l.variable-index l.variables) (map (λ n. n.now) l.names.items)
