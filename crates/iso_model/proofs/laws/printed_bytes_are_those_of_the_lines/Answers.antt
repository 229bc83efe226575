use Rattle.iso_model.proofs.Output.{block-counts, finish-prints, step-prints}
use Rattle.iso_model.proofs.laws.printed_bytes_are_those_of_the_lines.Goals as goal

pub returns-clause-block : goal.returns-clause-block
returns-clause-block c = block-counts

pub returns-clause-finish : goal.returns-clause-finish
returns-clause-finish c = finish-prints

pub returns-clause-step : goal.returns-clause-step
returns-clause-step c = step-prints
