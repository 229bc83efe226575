use Rattle.std.proofs.Common.{◌≡◌, ◌==◌, ◌++◌, ◌∙◌, List, [], ◌∷◌, length, true, false, sym, append-nil, arith}
use Rattle.std.proofs.lemmas.Bool.Decides.{nat_tests}
use Rattle.iso_model.specs.declared.names.Binding.{Binding}
use Rattle.iso_lifecycle.proofs.names.add_shared.Goals as goal

none-added : (xs ys : List Binding) → (length ys == 0) ≡ true → xs ≡ xs ++ ys
none-added xs [] none = sym (append-nil xs)
none-added xs (y ∷ ys) none = absurd (let some : (length (y ∷ ys) == 0) ≡ false = grind (arith, nat_tests) in cc)

pub returns-then-is_empty : goal.returns-then-is_empty
returns-then-is_empty c = none-added c.args.names.now c.args.shared.now (sym c.is_empty.ensures ∙ c.if-is_empty.true)
