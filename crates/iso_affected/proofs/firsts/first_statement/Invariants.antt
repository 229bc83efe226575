use Rattle.std.proofs.Common.{◌≡◌, map, take}
use Rattle.iso_model.specs.SyntaxView.{stmt_of}
use Rattle.iso_affected.proofs.firsts.first_statement.Given as goal

abbrev pub invariant-statements : goal.invariant-statements
invariant-statements l = take l.place (map stmt_of l.was) ≡ take l.place (map stmt_of l.now)
