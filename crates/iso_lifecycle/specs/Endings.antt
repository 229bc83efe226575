-- How endings are kept of which those before the first that isn't Well are counted alone.
use Rattle.std.specs.Prelude.{◌≡◌, List, [], ◌∷◌, false}
use Rattle.iso_model.specs.Statements.{is_well}
use Rattle.iso_model.specs.declared.outcome.Ending.{Ending}

-- the first of them, if there is one, isn't Well
abbrev pub BeginIll : List Ending → Type 0
BeginIll [] = Unit {0}
BeginIll (e ∷ es) = is_well e ≡ false
