use Rattle.iso_junit.proofs.ReaderLemmas.{read-back}
use Rattle.iso_junit.proofs.laws.readers_read_texts_back.Goals as goal

pub returns : goal.returns
returns c text = read-back text
