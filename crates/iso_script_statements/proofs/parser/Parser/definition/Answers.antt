use Rattle.iso_script_statements.specs.Statements.{a_let}
use Rattle.iso_script_statements.proofs.Views.{form_of-let}
use Rattle.iso_script_statements.proofs.parser.Parser.definition.Goals as goal

pub returns : goal.returns
returns c = rw form_of-let (a_let c.in_ok-name.ensures)
