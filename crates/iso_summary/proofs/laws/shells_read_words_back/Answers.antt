use Rattle.iso_summary.proofs.ShellLemmas.{read-back}
use Rattle.iso_summary.proofs.laws.shells_read_words_back.Goals as goal

pub returns : goal.returns
returns c word = read-back word
