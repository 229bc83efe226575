use Rattle.std.proofs.Common.{◌≡◌, drop}
use Rattle.iso_model.specs.Evaluation.{evaluated_all, joined_all, then}
use Rattle.iso_model.specs.Rights.{access_in}
use Rattle.iso_model.specs.SyntaxView.{terms_of_all}
use Rattle.iso_interp.specs.Values.{data_of, given_of}
use Rattle.iso_interp.proofs.expression.+evaluate.Given as goal

-- what the chain so far comes to with the rest of its operands is what it comes to with all
abbrev pub invariant-chain-loop-place : goal.invariant-chain-loop-place
invariant-chain-loop-place g l =
    let m = g.T.Touch.content l.touch in
    then (evaluated_all l.names.names m (access_in l.rights) (terms_of_all (drop l.place l.rest))) (λ ds. then (given_of l.sum) (λ x. joined_all l.operator x ds))
    ≡ then (evaluated_all l.names.names m (access_in l.rights) (terms_of_all l.rest)) (λ ds. joined_all l.operator (data_of l.fn.first) ds)
