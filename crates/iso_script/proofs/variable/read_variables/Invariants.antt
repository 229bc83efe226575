use Rattle.std.proofs.Common.{◌≡◌, ℕ, List, false, length, map}
use Rattle.std.specs.List.{AllByRecursion}
use Rattle.iso_script.specs.Readings.{AreRead}
use Rattle.iso_script.specs.Variables.{Declared, IsDeclared, KnowAll, name_in, variables_of}
use Rattle.iso_model.specs.NameSets.{Knows, is_among}
use Rattle.iso_script.proofs.Variables.{ComeTo}
use Rattle.iso_script.proofs.variable.read_variables.Given as goal

abbrev pub invariant-written : goal.invariant-written
invariant-written l = (written : List Declared) × AreRead IsDeclared written l.fn.parser.lexer l.parser.lexer × Knows l.variables.names (map name_in written)
    × ComeTo written (variables_of l.variables)
    × ((taken : List (List ℕ)) → KnowAll l.enclosing taken → AllByRecursion (λ n. is_among taken n ≡ false) (map name_in written))

abbrev pub decreases-written : goal.decreases-written
decreases-written l = length l.parser.lexer
