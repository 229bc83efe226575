use Rattle.std.proofs.Common.{◌≡◌, ap, false, subst, sym, true, ◌∙◌}
use Rattle.iso_desk.specs.Marking.{has}
use Rattle.iso_desk.specs.Offers.{IsLowestOffer}
use Rattle.iso_desk.specs.declared.marks.Marks.{Marks}
use Rattle.iso_floor.proofs.NextLemmas.{next-held, next-reading, not-written}
use Rattle.iso_floor.proofs.offers.offered.Goals as goal
use Rattle.iso_floor.proofs.offers.offered.Goals.{else-has, then-has}

pub returns-then-comes_first-clause-next : goal.returns-then-comes_first-clause-next
returns-then-comes_first-clause-next c =
    let places = c.args.table.now.places in
    let keys = c.args.keys.now in
    let p = c.args.party in
    let k = c.in_ok-key.key in
    let o : IsLowestOffer places keys.held keys.written p k =
    subst (λ (m : Marks). IsLowestOffer places m keys.written p k) c.held.ensures.keys
    (subst (λ (m : Marks). IsLowestOffer places c.held.result.now m p k) c.written.ensures.keys c.in_ok-key.ensures.offer) in
    let same : has keys.held k ≡ c.has.result = ap (λ (m : Marks). has m k) (sym c.held-2.ensures.keys) ∙ sym c.has.ensures in
    elim c.if-has.branch [
      | then-has w ↦ next-held places keys p k o (same ∙ w.if-has.true)
      | else-has w ↦
          let free : has keys.held k ≡ false = same ∙ w.if-has.false in
          let first = sym w.value-is ∙ c.if-comes_first.true in
          next-reading places keys p k o free
          (not-written (has keys.held k) (has keys.written k)
          (subst (λ (m : Marks). has m k ≡ true → has keys.held k ≡ true) c.written.ensures.keys (c.written.ensures.both k c.in_ok-key.ensures.key)) free)
          (w.comes_first.ensures.stands first) (w.comes_first.ensures.yes first)
    ]
