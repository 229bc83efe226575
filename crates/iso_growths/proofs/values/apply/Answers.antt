use Rattle.iso_store.proofs.HistoryLemmas.{earlier_itself, earlier_longer, earlier_same}
use Rattle.iso_growths.proofs.values.apply.Goals as goal

pub returns-in-Ok : goal.returns-in-Ok
returns-in-Ok g c = earlier_longer (earlier_itself c.args.held.now) c.in-Ok.ensures.ok

pub returns-in-Err : goal.returns-in-Err
returns-in-Err g c = earlier_same c.in-Err.ensures.err
