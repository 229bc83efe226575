use Rattle.std.proofs.Common.{◌≡◌, drop}
use Rattle.iso_explain_block.specs.Expressions.{terms_lines}
use Rattle.iso_model.specs.SyntaxView.{terms_of_all}
use Rattle.iso_explain_block.proofs.expression.+expression.Given as goal

abbrev pub invariant-add_expressions-loop-expression : goal.invariant-add_expressions-loop-expression
invariant-add_expressions-loop-expression l =
    terms_lines (terms_of_all l.expressions) l.fn.lines.items ≡ terms_lines (terms_of_all (drop l.expression-index l.expressions)) l.lines.items
