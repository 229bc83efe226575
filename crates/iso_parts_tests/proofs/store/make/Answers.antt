use Rattle.iso_store.proofs.HistoryLemmas.{earlier_longer}
use Rattle.iso_parts_tests.proofs.store.make.Goals as goal

pub returns : goal.returns
returns c = λ mark e. earlier_longer e c.in_ok-apply.ensures.ok
