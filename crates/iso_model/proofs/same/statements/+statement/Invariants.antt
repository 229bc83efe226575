use Rattle.std.proofs.Common.{◌≡◌, map, take}
use Rattle.iso_model.specs.SyntaxView.{stmt_of}
use Rattle.iso_model.proofs.same.statements.+statement.Given as goal

abbrev pub invariant-same_stmts-stmts : goal.invariant-same_stmts-stmts
invariant-same_stmts-stmts l = map stmt_of (take l.i l.a) ≡ map stmt_of (take l.i l.b)
