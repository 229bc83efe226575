use Rattle.iso_lifecycle.specs.declared.kind.BodyKind.TheVariants.{AfterAll}
use Rattle.iso_serial.proofs.StepLemmas.{closed-end, closing-can, ended-further, on-both}
use Rattle.iso_serial.proofs.run.Serial.close.Goals as goal

pub perform-requires : goal.perform-requires
perform-requires g c = closing-can c.args.self.now.plan.now c.args.self.now.world.now c.args.node c.args.walk.now c.requires.between c.requires.positive c.requires.class

pub returns-clause-exit : goal.returns-clause-exit
returns-clause-exit g c =
    let p = c.perform.ensures in
    on-both c.perform.result p.results p.values
    (λ re d. closed-end c.args.self.now.plan.now c.args.self.now.world.now c.args.node c.args.walk.now c.perform.new.walk c.requires.between c.requires.positive c.requires.class
    c.requires.done p.vault re d)

pub returns-clause-further : goal.returns-clause-further
returns-clause-further g c =
    let p = c.perform.ensures in
    on-both c.perform.result p.results p.values (λ re d. ended-further c.args.self.now.plan.now c.args.self.now.world.now c.args.node c.args.walk.now c.perform.new.walk AfterAll re d)
