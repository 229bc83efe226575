use Rattle.iso_lifecycle.specs.declared.kind.BodyKind.TheVariants.{Test}
use Rattle.iso_serial.proofs.StepLemmas.{ended-further, on-both, test-can, test-end}
use Rattle.iso_serial.proofs.run.Serial.test.Goals as goal

pub perform-requires : goal.perform-requires
perform-requires g c = test-can c.args.self.now.plan.now c.args.self.now.world.now c.args.node c.args.walk.now c.requires.entry c.requires.test

pub returns-clause-exit : goal.returns-clause-exit
returns-clause-exit g c =
    let p = c.perform.ensures in
    on-both c.perform.result p.results p.values
    (λ re d. test-end c.args.self.now.plan.now c.args.self.now.world.now c.args.node c.args.walk.now c.perform.new.walk c.requires.entry c.requires.test p.vault re d)

pub returns-clause-further : goal.returns-clause-further
returns-clause-further g c =
    let p = c.perform.ensures in
    on-both c.perform.result p.results p.values (λ re d. ended-further c.args.self.now.plan.now c.args.self.now.world.now c.args.node c.args.walk.now c.perform.new.walk Test re d)
