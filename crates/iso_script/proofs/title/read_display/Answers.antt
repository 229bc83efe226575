use Rattle.iso_script.proofs.Displays.{not_displayed}
use Rattle.iso_script.specs.Displays.{displayed}
use Rattle.iso_script.proofs.title.read_display.Goals as goal

pub returns-in_default : goal.returns-in_default
returns-in_default c = not_displayed _ _ _ c.peek.ensures.next c.in_default.not-Text

pub returns : goal.returns
returns c = displayed c.in_ok-text.ensures
