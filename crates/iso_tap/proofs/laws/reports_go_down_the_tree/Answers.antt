use Rattle.iso_tap.proofs.ReportLemmas.{text-down}
use Rattle.iso_tap.proofs.laws.reports_go_down_the_tree.Goals as goal

pub returns : goal.returns
returns c = λ tree outcome is indent number n pos inside. text-down tree outcome is indent number n pos inside
