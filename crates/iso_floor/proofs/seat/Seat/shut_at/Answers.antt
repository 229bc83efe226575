use Rattle.std.proofs.Common.{ℕ}
use Rattle.iso_book.specs.Turns.{GoesOnWith}
use Rattle.iso_standing.specs.declared.event.Event.TheVariants.{Shut}
use Rattle.iso_book.specs.Turns.{IsTaken}
use Rattle.iso_floor.proofs.Answered.{refused, taken}
use Rattle.iso_floor.proofs.ComingLemmas.{shut-open}
use Rattle.iso_floor.proofs.seat.Seat.shut_at.Goals as goal

pub returns-clause-taken : goal.returns-clause-taken
returns-clause-taken g c =
    let i = c.self.inside in
    let n : ℕ = c.args.node in
    rw (← c.self.view_is) (taken g.G.Ground.plan g.G.Ground.start g.G.Ground.workers c.args.desk.now.book c.keep_run.ensures.ground c.keep_run.ensures.run
    (Shut i.worker n) (λ x. GoesOnWith x n i.tray) c.shut.new.self.book i.tray c.shut.new.tray c.shut.result c.shut.ensures.event)

pub returns-clause-refused : goal.returns-clause-refused
returns-clause-refused g c =
    let i = c.self.inside in
    let n : ℕ = c.args.node in
    rw (← c.self.view_is) (refused g.G.Ground.plan g.G.Ground.start g.G.Ground.workers c.args.desk.now.book c.keep_run.ensures.ground c.keep_run.ensures.run
    (Shut i.worker n) (λ x. GoesOnWith x n i.tray) c.shut.new.self.book i.tray c.shut.new.tray c.shut.result c.shut.ensures.event)

pub returns-clause-open : goal.returns-clause-open
returns-clause-open g c =
    let i = c.self.inside in
    let b = c.args.desk.now.book in
    let n : ℕ = c.args.node in
    let after = c.shut.new.self.book in
    shut-open b after i.worker n (GoesOnWith b n i.tray) (IsTaken (Shut i.worker n) (GoesOnWith b n i.tray) b after) i.tray c.shut.new.tray c.shut.result c.shut.ensures.event
