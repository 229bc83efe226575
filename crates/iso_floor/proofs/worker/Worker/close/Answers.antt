use Rattle.std.proofs.Common.{refl, subst}
use Rattle.iso_book.specs.Turns.{handed}
use Rattle.iso_lifecycle.specs.declared.kind.BodyKind.TheVariants.{AfterAll}
use Rattle.iso_locks.specs.Trays.{GoesOn, TrayView}
use Rattle.iso_serial.proofs.NodeLemmas.{on-one}
use Rattle.iso_floor.proofs.NodeTrays.{closed, closing-can, further-handed, last-by, shut-stands}
use Rattle.iso_floor.proofs.Outcomes.{if-ok}
use Rattle.iso_floor.proofs.worker.Worker.close.Goals as goal

pub perform-requires : goal.perform-requires
perform-requires g c =
    closing-can g.G.Ground.plan g.G.Ground.start c.args.class c.args.seat.now.tray c.shut.new.seat.tray c.requires.inside.tree c.requires.inside.tray c.in_ok-shut.ensures.shut

pub returns-clause-last : goal.returns-clause-last
returns-clause-last g c = if-ok c.perform.result c.perform.ensures.done (λ d e. last-by g.G.Ground.plan g.G.Ground.start c.args.class AfterAll d refl e)

pub returns-clause-apart : goal.returns-clause-apart
returns-clause-apart g c =
    let plan = g.G.Ground.plan in
    let start = g.G.Ground.start in
    let stands = shut-stands plan start c.args.class c.args.seat.now.tray c.shut.new.seat.tray c.requires.inside.tray c.in_ok-shut.ensures.shut in
    on-one c.perform.result c.perform.ensures.after (λ d. closed plan start c.args.class c.shut.new.seat.tray c.perform.new.seat.tray c.requires.enclosed c.requires.class stands d)

pub returns-clause-further : goal.returns-clause-further
returns-clause-further g c =
    let t = c.args.seat.now.tray in
    let u = c.perform.new.seat.tray in
    on-one c.perform.result c.perform.ensures.after (λ d. further-handed t u (handed t c.args.class).frames
    (subst (λ (x : TrayView). GoesOn x u) c.in_ok-shut.ensures.shut.tray d.onward))
