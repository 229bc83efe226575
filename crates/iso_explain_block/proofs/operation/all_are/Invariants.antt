use Rattle.std.proofs.Common.{◌≡◌, drop}
use Rattle.iso_model.specs.SyntaxView.{terms_of_all}
use Rattle.iso_explain_block.specs.Operations.{all_are}
use Rattle.iso_explain_block.proofs.operation.all_are.Given as goal

abbrev pub invariant-loop-operand : goal.invariant-loop-operand
invariant-loop-operand l = all_are l.wanted (terms_of_all l.operands) ≡ all_are l.wanted (terms_of_all (drop l.operand-index l.operands))
