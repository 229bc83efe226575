use Rattle.iso_github.proofs.ReaderLemmas.{message-back, property-back}
use Rattle.iso_github.proofs.laws.texts_are_read_back.Goals as goal

pub returns-clause-message : goal.returns-clause-message
returns-clause-message c text = message-back text

pub returns-clause-property : goal.returns-clause-property
returns-clause-property c text = property-back text
