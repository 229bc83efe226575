use Rattle.iso_parts_tests.proofs.store.set_many.Goals as goal

pub loop-n-preserved : goal.loop-n-preserved
loop-n-preserved c = λ mark e. c.in_ok-make.ensures mark (c.loop-n.invariant mark e)
