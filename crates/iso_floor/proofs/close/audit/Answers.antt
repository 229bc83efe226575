use Rattle.std.proofs.Common.{◌≡◌, ◌+◌, List, ◌++◌, ◌∷◌, [], take, arith, ap, subst, sym, ◌∙◌}
use Rattle.std.proofs.lemmas.List.{map_more, take_all}
use Rattle.iso_book.specs.Leaves.{ReceiptView}
use Rattle.iso_floor.specs.Auditing.{IsAudited}
use Rattle.iso_floor.specs.Seats.{SeatView, lists_of}
use Rattle.iso_floor.proofs.AuditLemmas.{audited_first, unmarked}
use Rattle.iso_floor.proofs.close.audit.Goals as goal

pub loop-seat-init : goal.loop-seat-init
loop-seat-init g c = record {
  room = c.requires.room;
  so_far = audited_first c.args.history.now c.args.marks.now (λ n. unmarked c.args.marks.now n c.requires.clear);
}

pub loop-seat-preserved : goal.loop-seat-preserved
loop-seat-preserved g c =
    let done : List SeatView = take c.loop-seat.seat-index c.args.seats.now in
    let more : lists_of (take (c.loop-seat.seat-index + 1) c.args.seats.now) ≡ lists_of done ++ c.receipts.result.now ∷ [] =
    map_more (λ (s : SeatView). s.receipts) c.args.seats.now c.loop-seat.seat-index c.seat-item.result c.loop-seat-test.true
    ∙ ap (λ (s : SeatView). lists_of done ++ s.receipts ∷ []) (sym c.seat-item.is)
    ∙ ap (λ (rs : List ReceiptView). lists_of done ++ rs ∷ []) (sym c.receipts.ensures) in
    record {
      room = omega (arith, c.audit_list-lost.auto.marks);
      so_far = rw more (c.audit_list-lost.ensures (lists_of done) c.loop-seat.invariant.so_far);
    }

pub returns : goal.returns
returns g c =
    let all : take c.loop-seat.seat-index c.args.seats.now ≡ c.args.seats.now = take_all c.loop-seat.seat-index c.args.seats.now c.loop-seat-test.false in
    let seats : List SeatView = c.args.seats.now in
    c.lowest_lost.ensures (lists_of seats)
    (subst (λ (s : List SeatView). IsAudited c.args.history.now (lists_of s) c.loop-seat.marks c.loop-seat.lost) all c.loop-seat.invariant.so_far)
