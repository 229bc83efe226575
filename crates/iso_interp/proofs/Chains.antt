-- A chain whose values are joined as they come is the chain of all its values.
use Rattle.std.proofs.Common.{◌≡◌, List, [], ◌∷◌, Result, Ok, Err, refl, ap}
use Rattle.iso_model.specs.Evaluation.{Given, then, joined, joined_all}
use Rattle.iso_model.specs.declared.data.Data.{Data}
use Rattle.iso_model.specs.declared.fault.Fault.{Fault}
use Rattle.iso_model.specs.declared.tree.Operator.{Operator}

pub chain-next : (op : Operator) (s : Given) (y : Data) (rest : Result (List Data) Fault)
    → then (then rest (λ ds. Ok (y ∷ ds))) (λ ys. then s (λ x. joined_all op x ys)) ≡ then rest (λ ds. then (then s (λ x. joined op x y)) (λ z. joined_all op z ds))
chain-next op (Ok x) y (Ok ds) = refl
chain-next op (Ok x) y (Err fault) = refl
chain-next op (Err first) y (Ok ds) = refl
chain-next op (Err first) y (Err fault) = refl

pub chain-end : (op : Operator) (s : Given) → then s (λ x. joined_all op x []) ≡ s
chain-end op (Ok x) = refl
chain-end op (Err fault) = refl

-- an operand more, where the number so far and the operand come to a number
pub number-next : (op : Operator) (x z : Data) (g : Given) (rest : Result (List Data) Fault) → then g (joined op x) ≡ Ok z
    → then (then g (λ d. then rest (λ ds. Ok (d ∷ ds)))) (joined_all op x) ≡ then rest (joined_all op z)
number-next op x z (Ok d) (Ok ds) h = ap (λ (g : Given). then g (λ z. joined_all op z ds)) h
number-next op x z (Ok d) (Err fault) h = refl
number-next op x z (Err fault) rest h = cc
