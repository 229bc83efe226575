use Rattle.std.proofs.Common.{◌∷◌, ◌++◌, [], length, refl, ap, ◌∙◌}
use Rattle.std.proofs.lemmas.Result.{err_from_is_err_and}
use Rattle.iso_book.specs.Leaves.{ReceiptView}
use Rattle.iso_floor.proofs.seat.Seat.leave_at.Goals as goal

pub returns-clause-left : goal.returns-clause-left
returns-clause-left g c = rw (← c.self.view_is) (record {
  number = length c.args.desk.now.book.history;
  worker = refl;
  tray = c.in_ok-receipt.ensures.tray;
  receipts = c.push_reserved.ensures.items ∙ ap (λ (r : ReceiptView). c.self.inside.receipts.items ++ r ∷ []) c.in_ok-receipt.ensures.event.1.receipt;
  room = c.push_reserved.ensures.capacity;
})

pub returns-clause-taken : goal.returns-clause-taken
returns-clause-taken g c =
    let left = c.in_ok-receipt.ensures.event.1 in
    rw (← c.self.view_is) (record {
      book = c.args.desk.now.book;
      ground = c.keep_run.ensures.ground;
      run = c.keep_run.ensures.run;
      answer = record { allowed = left.allowed; tray = left.tray };
    })

pub returns-in_err-receipt-clause-refused : goal.returns-in_err-receipt-clause-refused
returns-in_err-receipt-clause-refused g c =
    let p = err_from_is_err_and c.from_residual.result c.from_residual.ensures.1 in
    rw (p.1, p.2, ← c.self.view_is) (λ room. record {
      book = c.args.desk.now.book;
      ground = c.keep_run.ensures.ground;
      run = c.keep_run.ensures.run;
      answer = c.in_err-receipt.ensures.event.why;
    })
