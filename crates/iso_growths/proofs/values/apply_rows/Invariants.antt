use Rattle.iso_store.specs.Histories.{IsEarlier}
use Rattle.iso_growths.proofs.values.apply_rows.Given as goal

abbrev pub invariant-rows : goal.invariant-rows
invariant-rows g l = IsEarlier l.fn.held l.held
