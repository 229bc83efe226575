use Rattle.std.proofs.Common.{List, subst}
use Rattle.std.proofs.lemmas.Result.{IfErr-weaker}
use Rattle.iso_floor.specs.Closing.{IsCloseFault}
use Rattle.iso_floor.specs.Seats.{SeatView, lists_of}
use Rattle.iso_floor.proofs.floor.Floor.close.Goals as goal

pub returns-clause-fault : goal.returns-clause-fault
returns-clause-fault g c =
    let book = c.into_book-book in
    IfErr-weaker c.settle.result _ _ (λ fault is. record {
      book = book.result;
      ground = book.ensures.ground;
      run = book.ensures.run;
      answer = subst (λ (seats : List SeatView). IsCloseFault book.result (lists_of seats) fault) c.deref.ensures.value is;
    }) c.settle.ensures.fault
