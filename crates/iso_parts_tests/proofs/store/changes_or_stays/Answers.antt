use Rattle.iso_store.proofs.HistoryLemmas.{earlier_longer}
use Rattle.iso_parts_tests.proofs.store.changes_or_stays.Goals as goal

pub returns-in-Ok : goal.returns-in-Ok
returns-in-Ok c = λ mark e. earlier_longer e c.in-Ok.ensures.ok
