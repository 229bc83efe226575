use Rattle.std.proofs.Common.{◌≡◌, ◌+◌, ◌++◌, ◌∷◌, [], List, take, set, Some, true, arith, ap, subst, sym, ◌∙◌}
use Rattle.std.proofs.lemmas.Bool.{OnFalse_at, OnTrue_at}
use Rattle.std.proofs.lemmas.List.{take_more}
use Rattle.iso_book.specs.Leaves.{ReceiptView}
use Rattle.iso_floor.specs.Auditing.{IsNext, higher_of, lower_of}
use Rattle.iso_floor.proofs.AuditLemmas.{highest_first, highest_next, list_first, list_marked, list_refused}
use Rattle.iso_floor.proofs.audit.audit_list.Goals as goal
use Rattle.iso_floor.proofs.audit.audit_list.Goals.{then-not-mark, else-not-mark}

pub loop-receipt-init : goal.loop-receipt-init
loop-receipt-init c = record { room = c.requires; on = list_first c.args.history.now c.args.marks.now c.args.lost; high = highest_first }

pub loop-receipt-preserved : goal.loop-receipt-preserved
loop-receipt-preserved c =
    let h = c.args.history.now in
    let xs : List ReceiptView = take c.loop-receipt.receipt-index c.args.list.now in
    let r : ReceiptView = c.receipt-item.result in
    let more : take (c.loop-receipt.receipt-index + 1) c.args.list.now ≡ xs ++ r ∷ [] =
    subst (λ (x : ReceiptView). take (c.loop-receipt.receipt-index + 1) c.args.list.now ≡ xs ++ x ∷ []) (sym c.receipt-item.is)
    (take_more c.args.list.now c.loop-receipt.receipt-index r c.loop-receipt-test.true) in
    let is : c.number-number.result ≡ r.number = c.number-number.ensures in
    let high : c.higher.result ≡ higher_of r.number c.loop-receipt.highest = rw (← is) c.higher.ensures in
    record {
      room = omega (arith, c.mark.auto.marks);
      on = rw more (elim c.if-not-mark.branch [
        | then-not-mark w ↦
            let refused : IsNext h r c.loop-receipt.highest c.loop-receipt.marks → ⊥ = OnFalse_at w.if-not-mark.true c.mark.ensures.refused in
            let same : c.mark.new.marks ≡ c.loop-receipt.marks = OnFalse_at w.if-not-mark.true c.mark.ensures.same in
            let low : c.if-not-mark.lost ≡ Some (lower_of r.number c.loop-receipt.lost) = rw (← is) (w.lost-is ∙ ap Some w.lower.ensures) in
            rw (same, low) (list_refused h c.args.marks.now c.args.lost xs c.loop-receipt.marks c.loop-receipt.lost c.loop-receipt.highest r c.loop-receipt.invariant.on
            c.loop-receipt.invariant.high refused)
        | else-not-mark w ↦
            let next : IsNext h r c.loop-receipt.highest c.loop-receipt.marks = OnTrue_at w.if-not-mark.false c.mark.ensures.taken in
            let marked : c.mark.new.marks ≡ set c.loop-receipt.marks r.number true = OnTrue_at w.if-not-mark.false c.mark.ensures.marked in
            rw (marked, w.lost-is) (list_marked h c.args.marks.now c.args.lost xs c.loop-receipt.marks c.loop-receipt.lost c.loop-receipt.highest r c.loop-receipt.invariant.on
            c.loop-receipt.invariant.high c.loop-receipt.invariant.room next)
      ]);
      high = rw (more, high) (highest_next xs c.loop-receipt.highest r c.loop-receipt.invariant.high);
    }
