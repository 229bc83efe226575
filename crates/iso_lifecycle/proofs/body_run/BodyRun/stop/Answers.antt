use Rattle.iso_lifecycle.proofs.RunLemmas.{stopped-rights}
use Rattle.iso_lifecycle.proofs.body_run.BodyRun.stop.Goals as goal

pub invariant_of-self : goal.invariant_of-self
invariant_of-self c = record { same = stopped-rights c.replace.new.self c.idle-idle.result c.args.self.now.rest c.replace.ensures.after c.idle-idle.ensures }
