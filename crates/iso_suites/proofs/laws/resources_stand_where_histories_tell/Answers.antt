use Rattle.iso_suites.proofs.Headline.{launched-laws}
use Rattle.iso_suites.proofs.LanguageLaws.{scripts-laws}
use Rattle.iso_suites.specs.PlanSuites.{launched}
use Rattle.iso_suites.specs.ScriptLanguage.{scripts}
use Rattle.iso_isolation.proofs.Fresh.{history_home, history_value}
use Rattle.iso_suites.proofs.laws.resources_stand_where_histories_tell.Goals as goal

pub returns-clause-value : goal.returns-clause-value
returns-clause-value c = λ l workers h k is. history_value scripts (launched l) (launched-laws l) scripts-laws workers h is k

pub returns-clause-home : goal.returns-clause-home
returns-clause-home c = λ l workers h k is none. history_home scripts (launched l) (launched-laws l) scripts-laws workers h is k none
