use Rattle.std.proofs.Common.{◌≡◌, map, take}
use Rattle.iso_model.specs.SyntaxView.{term_of}
use Rattle.iso_model.proofs.same.expressions.+expression.Given as goal

abbrev pub invariant-same_exprs-exprs : goal.invariant-same_exprs-exprs
invariant-same_exprs-exprs l = map term_of (take l.i l.a) ≡ map term_of (take l.i l.b)
