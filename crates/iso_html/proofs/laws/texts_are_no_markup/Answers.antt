use Rattle.iso_html.proofs.MarkupLemmas.{no-markup}
use Rattle.iso_html.proofs.laws.texts_are_no_markup.Goals as goal

pub returns : goal.returns
returns c text = no-markup text
