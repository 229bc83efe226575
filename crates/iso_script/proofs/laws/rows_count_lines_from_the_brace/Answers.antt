use Rattle.iso_script.proofs.Lines.{row_from_brace}
use Rattle.iso_script.proofs.laws.rows_count_lines_from_the_brace.Goals as goal

pub returns : goal.returns
returns c = row_from_brace
