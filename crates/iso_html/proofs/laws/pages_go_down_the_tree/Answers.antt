use Rattle.iso_html.proofs.TreeLemmas.{text-down}
use Rattle.iso_html.proofs.laws.pages_go_down_the_tree.Goals as goal

pub returns : goal.returns
returns c = λ r settings is n pos inside. text-down r settings is n pos inside
