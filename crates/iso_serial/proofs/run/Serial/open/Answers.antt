use Rattle.iso_serial.proofs.StepLemmas.{on-both, opened-end, opened-further, opening-can}
use Rattle.iso_serial.proofs.run.Serial.open.Goals as goal

pub perform-requires : goal.perform-requires
perform-requires g c = opening-can c.args.self.now.plan.now c.args.self.now.world.now c.args.node c.args.walk.now c.requires.entry c.requires.class

pub returns-clause-between : goal.returns-clause-between
returns-clause-between g c =
    let p = c.perform.ensures in
    on-both c.perform.result p.results p.values
    (λ re d. opened-end c.args.self.now.plan.now c.args.self.now.world.now c.args.node c.args.walk.now c.perform.new.walk c.requires.entry c.requires.class p.vault re d)

pub returns-clause-further : goal.returns-clause-further
returns-clause-further g c =
    let p = c.perform.ensures in
    on-both c.perform.result p.results p.values (λ re d. opened-further c.args.self.now.plan.now c.args.self.now.world.now c.args.node c.args.walk.now c.perform.new.walk re d)
