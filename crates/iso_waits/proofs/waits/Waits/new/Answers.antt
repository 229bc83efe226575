use Rattle.std.proofs.Common.{ℕ, Option, length, subst, sym}
use Rattle.std.specs.List.Sorted.{IsPermutation}
use Rattle.iso_plan.specs.RowView.{tree_of}
use Rattle.iso_waits.proofs.RivalLemmas.{stays-among}
use Rattle.iso_waits.specs.Rivals.{AreKnown}
use Rattle.iso_waits.specs.Stays.{stays_below}
use Rattle.iso_waits.proofs.waits.Waits.new.Goals as goal

pub invariant_of-result : goal.invariant_of-result
invariant_of-result c =
    let tree = tree_of c.args.plan.now in
    let bodies = c.args.times.now in
    let stays = c.in_ok-stays.stays.items in
    let all : IsPermutation (stays_below bodies (length tree)) stays =
    subst (λ (n : ℕ). IsPermutation (stays_below bodies n) stays) c.len.ensures c.in_ok-stays.ensures.all in (
      record { all = all; among = stays-among tree bodies stays all; order = c.in_ok-stays.ensures.order },
      subst (λ (o : Option ℕ). AreKnown tree stays o c.new-2.result.stays.items) (sym c.new-2.ensures) tt,
      c.in_ok-keys.ensures,
    )
