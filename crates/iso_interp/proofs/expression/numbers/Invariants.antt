use Rattle.std.proofs.Common.{◌≡◌, drop}
use Rattle.iso_model.specs.Evaluation.{evaluated_all, joined_all, then}
use Rattle.iso_model.specs.Resources.{Resources}
use Rattle.iso_model.specs.Rights.{Rights}
use Rattle.iso_model.specs.SyntaxView.{terms_of_all}
use Rattle.iso_model.specs.declared.data.Data.TheVariants.{Whole}
use Rattle.iso_interp.proofs.expression.numbers.Given as goal

-- the sum with the operands that are left comes to what the first number comes to with all
abbrev pub invariant-loop-passed : goal.invariant-loop-passed
invariant-loop-passed l = (m : Resources) (r : Rights) →
    then (evaluated_all l.names.names m r (terms_of_all (drop l.passed l.rest))) (joined_all l.operator (Whole l.sum))
    ≡ then (evaluated_all l.names.names m r (terms_of_all l.rest)) (joined_all l.operator (Whole l.fn.first))
