use Rattle.std.proofs.Common.{ap, ◌∙◌}
use Rattle.iso_locks.specs.Trays.{TrayView, is_lent}
use Rattle.iso_book.proofs.book.Book.shut_own.Goals as goal

pub returns-clause-tray : goal.returns-clause-tray
returns-clause-tray c = record {
  around = c.in_default.ensures.tray.own.around;
  tray = c.in_ok-hand_path.ensures.handed;
  lent = ap (λ (u : TrayView). is_lent u.lent c.args.node) c.in_ok-hand_path.ensures.handed ∙ c.in_default.ensures.tray.lent;
  begins = c.in_ok-hand_path.ensures.begins;
}
