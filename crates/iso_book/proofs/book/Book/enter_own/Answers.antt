use Rattle.std.proofs.Common.{◌<◌, length, refl, subst, sym}
use Rattle.iso_book.proofs.Frames.{begins-still}
use Rattle.iso_book.proofs.Homes.{still-enters}
use Rattle.iso_locks.specs.Trays.{TrayView}
use Rattle.iso_locks.specs.Vaults.{IsLentTo}
use Rattle.iso_plan.specs.Paths.{parent}
use Rattle.iso_plan.specs.Planned.{Planned}
use Rattle.iso_plan.specs.RowView.{tree_of}
use Rattle.iso_book.proofs.book.Book.enter_own.Goals as goal

pub take_enter-requires-clause-own : goal.take_enter-requires-clause-own
take_enter-requires-clause-own c =
    let t = c.args.tray.now in
    still-enters c.args.self.now c.args.node t c.requires.plan c.requires.world (parent (tree_of t.plan) c.args.node) c.hand_around.new.tray c.in_ok-hand_around.ensures.handed
    c.in_default.ensures.kind.tray

pub returns-clause-tray : goal.returns-clause-tray
returns-clause-tray c =
    let lent = c.take_enter.ensures.lent in
    record {
      inner = c.in_default.ensures.inner refl;
      within = subst (λ (p : Planned). c.args.node < length p.rows) (sym c.requires.plan) (c.in_default.ensures.node refl);
      around = c.in_default.ensures.kind.tray.own.around;
      lent = subst (λ (t : TrayView). IsLentTo c.args.node t c.take_enter.new.tray) c.in_ok-hand_around.ensures.handed lent;
      begins = begins-still c.args.node c.hand_around.new.tray c.take_enter.new.tray lent.plan lent.world lent.frames c.in_ok-hand_around.ensures.begins;
      reads = c.take_enter.ensures.reads;
    }
