use Rattle.std.proofs.Common.{◌≡◌, ℕ, List}
use Rattle.iso_model.specs.KeyMaps.{value_in}
use Rattle.iso_plan.specs.KeyNumbers.{number_below}
use Rattle.iso_plan.proofs.keys.numbers.Given as goal

abbrev pub invariant-keys : goal.invariant-keys
invariant-keys l = (k : List ℕ) → value_in l.numbers k ≡ number_below l.keys k l.number
