use Rattle.std.proofs.Common.{ℕ}
use Rattle.iso_book.specs.Turns.{MayEnterWith}
use Rattle.iso_standing.specs.declared.event.Event.TheVariants.{Enter}
use Rattle.iso_floor.proofs.Answered.{refused, taken}
use Rattle.iso_floor.proofs.seat.Seat.enter_at.Goals as goal

pub returns-clause-taken : goal.returns-clause-taken
returns-clause-taken g c =
    let i = c.self.inside in
    let n : ℕ = c.args.node in
    rw (← c.self.view_is) (taken g.G.Ground.plan g.G.Ground.start g.G.Ground.workers c.args.desk.now.book c.keep_run.ensures.ground c.keep_run.ensures.run
    (Enter i.worker n) (λ x. MayEnterWith x n i.tray) c.enter.new.self.book i.tray c.enter.new.tray c.enter.result c.enter.ensures.event)

pub returns-clause-refused : goal.returns-clause-refused
returns-clause-refused g c =
    let i = c.self.inside in
    let n : ℕ = c.args.node in
    rw (← c.self.view_is) (refused g.G.Ground.plan g.G.Ground.start g.G.Ground.workers c.args.desk.now.book c.keep_run.ensures.ground c.keep_run.ensures.run
    (Enter i.worker n) (λ x. MayEnterWith x n i.tray) c.enter.new.self.book i.tray c.enter.new.tray c.enter.result c.enter.ensures.event)
