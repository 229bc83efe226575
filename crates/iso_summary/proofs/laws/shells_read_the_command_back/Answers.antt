use Rattle.iso_summary.proofs.ShellLemmas.{command-back}
use Rattle.iso_summary.proofs.laws.shells_read_the_command_back.Goals as goal

pub returns : goal.returns
returns c again at path plain fits = command-back again at path plain fits
