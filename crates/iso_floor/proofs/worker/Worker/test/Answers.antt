use Rattle.std.proofs.Common.{refl}
use Rattle.iso_lifecycle.specs.declared.kind.BodyKind.TheVariants.{Test}
use Rattle.iso_serial.proofs.NodeLemmas.{on-one}
use Rattle.iso_floor.proofs.NodeTrays.{last-by, test-can, tested}
use Rattle.iso_floor.proofs.Outcomes.{if-ok}
use Rattle.iso_floor.proofs.worker.Worker.test.Goals as goal

pub perform-requires : goal.perform-requires
perform-requires g c = test-can g.G.Ground.plan g.G.Ground.start c.args.node c.args.seat.now.tray c.requires.entry c.requires.test

pub returns-clause-last : goal.returns-clause-last
returns-clause-last g c = if-ok c.perform.result c.perform.ensures.done (λ d e. last-by g.G.Ground.plan g.G.Ground.start c.args.node Test d refl e)

pub returns-clause-apart : goal.returns-clause-apart
returns-clause-apart g c =
    on-one c.perform.result c.perform.ensures.after (λ d. tested g.G.Ground.plan g.G.Ground.start c.args.node c.args.seat.now.tray c.perform.new.seat.tray c.requires.entry d)

pub returns-clause-further : goal.returns-clause-further
returns-clause-further g c = on-one c.perform.result c.perform.ensures.after (λ d. d.onward)
