use Rattle.iso_isolation.specs.States.{first}
use Rattle.iso_record.proofs.ShortLemmas.{short_run}
use Rattle.iso_suites.specs.ScriptLanguage.{scripts}
use Rattle.iso_suites.specs.SuiteStates.{suite_at}
use Rattle.iso_record.proofs.laws.accepted_events_are_short.Goals as goal

pub returns : goal.returns
returns c plan world workers es accepted few small =
    short_run (suite_at plan world) workers few small (first scripts (suite_at plan world)) es accepted
