use Rattle.std.proofs.Common.{◌≡◌, drop}
use Rattle.iso_explain_block.specs.Statements.{acts_lines}
use Rattle.iso_model.specs.SyntaxView.{block_of}
use Rattle.iso_explain_block.proofs.statement.+statement.Given as goal

abbrev pub invariant-add_statements-loop-statement : goal.invariant-add_statements-loop-statement
invariant-add_statements-loop-statement l =
    acts_lines l.row (block_of l.statements) l.fn.lines.items ≡ acts_lines l.row (block_of (drop l.statement-index l.statements)) l.lines.items
