use Rattle.iso_suites.proofs.BodyEnds.{scripts-end}
use Rattle.iso_suites.proofs.Headline.{launched-laws}
use Rattle.iso_suites.proofs.LanguageLaws.{scripts-laws}
use Rattle.iso_suites.specs.PlanSuites.{launched}
use Rattle.iso_suites.specs.ScriptLanguage.{scripts}
use Rattle.iso_isolation.proofs.Going.{goes_on, leaves}
use Rattle.iso_suites.proofs.laws.histories_go_on.Goals as goal

pub returns : goal.returns
returns c = record {
  accepted = λ l workers h e. goes_on scripts (launched l) (launched-laws l) scripts-laws scripts-end workers h e;
  leaves = λ l workers h w. leaves scripts (launched l) (launched-laws l) scripts-laws scripts-end workers h w;
}
