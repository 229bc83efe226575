use Rattle.std.proofs.Common.{◌+◌, ◌*◌, length, map}
use Rattle.iso_model.specs.SyntaxView.{stmt_of}
use Rattle.iso_script_statements.specs.Statements.{IsStatements}
use Rattle.iso_script_statements.proofs.Repetitions.{HaveRead}
use Rattle.iso_script_statements.proofs.Statements.{also}
use Rattle.iso_script_statements.proofs.parser.Parser.+body.Given as goal

abbrev pub decreases-body : goal.decreases-body
decreases-body l = 5 * l.bodies

abbrev pub decreases-otherwise : goal.decreases-otherwise
decreases-otherwise l = 5 * l.bodies + 1

abbrev pub decreases-repetition : goal.decreases-repetition
decreases-repetition l = 5 * l.bodies + 1

abbrev pub decreases-choice : goal.decreases-choice
decreases-choice l = 5 * l.bodies + 2

abbrev pub decreases-form : goal.decreases-form
decreases-form l = 5 * l.bodies + 3

abbrev pub decreases-statements : goal.decreases-statements
decreases-statements l = 5 * l.bodies + 4

abbrev pub invariant-statements-statements : goal.invariant-statements-statements
invariant-statements-statements l = HaveRead also (IsStatements l.bodies l.above) (IsStatements l.bodies l.above) (map stmt_of l.statements.items) l.fn.self.lexer l.self.lexer

abbrev pub decreases-statements-statements : goal.decreases-statements-statements
decreases-statements-statements l = length l.self.lexer
