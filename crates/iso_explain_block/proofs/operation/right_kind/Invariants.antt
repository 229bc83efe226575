use Rattle.std.proofs.Common.{◌≡◌, drop}
use Rattle.iso_model.specs.SyntaxView.{terms_of_all}
use Rattle.iso_explain_block.specs.Operations.{right_kind}
use Rattle.iso_explain_block.specs.declared.kind.Kind.TheVariants.{Hidden}
use Rattle.iso_explain_block.proofs.operation.right_kind.Given as goal

abbrev pub invariant-loop-operand : goal.invariant-loop-operand
invariant-loop-operand l =
    right_kind l.wanted Hidden (terms_of_all l.operands) ≡ right_kind l.wanted l.last (terms_of_all (drop l.operand-index l.operands))
