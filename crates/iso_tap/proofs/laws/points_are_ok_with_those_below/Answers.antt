use Rattle.iso_tap.proofs.ReportLemmas.{ok-down}
use Rattle.iso_tap.proofs.laws.points_are_ok_with_those_below.Goals as goal

pub returns : goal.returns
returns c = λ tree outcome is n pos inside. ok-down tree outcome is n pos inside
