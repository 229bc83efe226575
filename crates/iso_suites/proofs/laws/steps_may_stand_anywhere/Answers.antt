use Rattle.iso_suites.proofs.Headline.{launched-laws}
use Rattle.iso_suites.proofs.LanguageLaws.{scripts-laws}
use Rattle.iso_suites.specs.PlanSuites.{launched}
use Rattle.iso_suites.specs.ScriptLanguage.{scripts}
use Rattle.iso_isolation.proofs.Stages.{same_results}
use Rattle.iso_suites.proofs.laws.steps_may_stand_anywhere.Goals as goal

pub returns : goal.returns
returns c = λ l workers es fs h n. same_results scripts (launched l) (launched-laws l) scripts-laws workers es fs h n
