use Rattle.std.proofs.Common.{◌-◌, [], ◌∷◌, ◌++◌, length}
use Rattle.iso_core.specs.Cores.{suite_in}
use Rattle.iso_isolation.specs.Events as E
use Rattle.iso_isolation.specs.Runs.{full}
use Rattle.iso_isolation.specs.States.{first}
use Rattle.iso_record.proofs.RecordLemmas.{IsLeft}
use Rattle.iso_record.specs.Recordings.{OfSameSuite, history_in}
use Rattle.iso_suites.specs.ScriptLanguage.{scripts}
use Rattle.iso_record.proofs.recording.Recording.leave.Given as goal

abbrev pub invariant-steps : goal.invariant-steps
invariant-steps l = record {
  same : OfSameSuite l.fn.self l.self;
  left : IsLeft (history_in l.fn.self) l.worker l.self;
}

abbrev pub decreases-steps : goal.decreases-steps
decreases-steps l =
    length (full scripts (suite_in l.self) (first scripts (suite_in l.self)) (history_in l.fn.self ++ E.Leave l.worker ∷ [])) - length l.self.events
