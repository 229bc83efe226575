use Rattle.iso_store.specs.Histories.{History, IsEarlier}
use Rattle.iso_parts_tests.proofs.store.set_many.Given as goal

abbrev pub invariant-loop-n : goal.invariant-loop-n
invariant-loop-n l = (mark : History) → IsEarlier mark l.fn.held → IsEarlier mark l.held
