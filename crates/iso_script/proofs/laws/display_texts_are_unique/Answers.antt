use Rattle.iso_script.proofs.Displays.{one_display}
use Rattle.iso_script.proofs.laws.display_texts_are_unique.Goals as goal

pub returns : goal.returns
returns c = λ a b ps qs rs h k. one_display h k
