use Rattle.std.proofs.Common.{◌+◌, ◌-◌, ◌*◌, ◌≤◌, length, map}
use Rattle.iso_model.specs.Syntax.{term}
use Rattle.iso_model.specs.SyntaxView.{term_of}
use Rattle.iso_script_statements.specs.Expressions.{IsChained}
use Rattle.iso_script_statements.proofs.Repetitions.{HaveRead}
use Rattle.iso_script_statements.proofs.parser.Parser.+expression.Given as goal

abbrev pub decreases-enclosed : goal.decreases-enclosed
decreases-enclosed l = 4 * l.parens

abbrev pub decreases-operand : goal.decreases-operand
decreases-operand l = 4 * l.parens + 1

abbrev pub decreases-chained : goal.decreases-chained
decreases-chained l = 4 * l.parens + 2

abbrev pub decreases-compared : goal.decreases-compared
decreases-compared l = 4 * l.parens + 2

abbrev pub decreases-expression : goal.decreases-expression
decreases-expression l = 4 * l.parens + 3

abbrev pub invariant-chained-operands : goal.invariant-chained-operands
invariant-chained-operands l =
    record {
      few : length l.operands.items ≤ 31;
      read : HaveRead term (IsChained l.parens l.symbol 31) (IsChained l.parens l.symbol (31 - length l.operands.items)) (map term_of l.operands.items) l.fn.self.lexer l.self.lexer;
    }

abbrev pub decreases-chained-operands : goal.decreases-chained-operands
decreases-chained-operands l = length l.self.lexer
