use Rattle.iso_script_statements.specs.Statements.{of_one}
use Rattle.iso_script_statements.proofs.Views.{form_of-one}
use Rattle.iso_script_statements.proofs.parser.Parser.of_one.Goals as goal

pub returns : goal.returns
returns c = rw form_of-one (of_one c.in_ok-value.ensures)
