use Rattle.iso_explain.specs.Meant.{meant_by}
use Rattle.iso_explain.specs.Printable.{is_safe}
use Rattle.iso_explain.proofs.MeantLemmas.{meant-passes}
use Rattle.iso_explain.proofs.SafeLemmas.{explanation-is-safe, spelling-is-safe}
use Rattle.iso_explain.proofs.laws.explanations_are_safe_to_show.Goals as goal

pub returns-clause-found : goal.returns-clause-found
returns-clause-found c bytes told places = explanation-is-safe bytes told (meant_by bytes told) places (meant-passes is_safe spelling-is-safe bytes told)

pub returns-clause-given : goal.returns-clause-given
returns-clause-given c bytes told meant places word = explanation-is-safe bytes told meant places word
