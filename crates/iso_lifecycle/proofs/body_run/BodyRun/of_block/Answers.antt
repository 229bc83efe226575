use Rattle.iso_lifecycle.proofs.body_run.BodyRun.of_block.Goals as goal

pub invariant_of-new : goal.invariant_of-new
invariant_of-new c = record { same = λ k i. c.new-first.ensures.rights i k }
