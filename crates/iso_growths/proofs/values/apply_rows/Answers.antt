use Rattle.iso_store.proofs.HistoryLemmas.{earlier_of_earlier}
use Rattle.iso_growths.proofs.values.apply_rows.Goals as goal

pub rows-preserved : goal.rows-preserved
rows-preserved g c = earlier_of_earlier c.args.held.now c.rows.held c.apply.new.held c.rows.invariant c.apply.ensures

pub returns-in_err-apply : goal.returns-in_err-apply
returns-in_err-apply g c = earlier_of_earlier c.args.held.now c.rows.held c.apply.new.held c.rows.invariant c.apply.ensures
