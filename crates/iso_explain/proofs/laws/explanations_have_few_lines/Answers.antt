use Rattle.iso_explain.specs.Meant.{meant_by}
use Rattle.iso_explain.specs.Printable.{is_inner}
use Rattle.iso_explain.proofs.FewLemmas.{lines-are-few, spelling-is-inner}
use Rattle.iso_explain.proofs.MeantLemmas.{meant-passes}
use Rattle.iso_explain.proofs.laws.explanations_have_few_lines.Goals as goal

pub returns-clause-found : goal.returns-clause-found
returns-clause-found c bytes told places = lines-are-few bytes told (meant_by bytes told) places (meant-passes is_inner spelling-is-inner bytes told)

pub returns-clause-given : goal.returns-clause-given
returns-clause-given c bytes told meant places word = lines-are-few bytes told meant places word
