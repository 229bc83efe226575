use Rattle.std.proofs.Common.{◌≡◌, ◌+◌, ◌<◌, length, refl, ap, sym, subst, ◌∙◌, arith}
use Rattle.std.proofs.lemmas.Option.{slice_get_read}
use Rattle.iso_posts.specs.Accounts.{OwnerView}
use Rattle.iso_posts.specs.Seats.{ArePosts}
use Rattle.iso_posts.proofs.Seating.{goes_on, grown, new_thieves_go_on, same_number}
use Rattle.iso_posts.proofs.posts.add_seat.Goals as goal

pub loop-at-preserved : goal.loop-at-preserved
loop-at-preserved c =
    let met = c.loop-at.invariant.0 in
    let number = same_number _ _ _ _ met in
    let below = c.loop-at-test.true in
    let count = c.len-at-end.ensures in
    let inside : c.loop-at.at < length c.loop-at.seats.items = omega arith in
    let there = slice_get_read c.loop-at.seats.items _ c.loop-at.at c.index_mut-other.result.now refl inside c.index_mut-other.ensures.value in (
      goes_on _ _ _ _ _ _ _ _ met there c.loop-at.invariant.1 c.in_ok-thief.ensures.counted c.in_ok-push-2.ensures.items c.in_ok-thief-2.ensures.thief,
      c.in_ok-thief-2.ensures.counted ∙ ap (λ (o : OwnerView). record o { thieves = o.thieves + 1 }) c.loop-at.invariant.1,
      new_thieves_go_on _ _ _ _ _ _ _ _ met there c.loop-at.invariant.2 c.in_ok-push.ensures.items c.in_ok-thief.ensures.thief,
    )

pub returns : goal.returns
returns c =
    let met = c.loop-at.invariant.0 in
    let number = same_number _ _ _ _ met in
    let past = c.loop-at-test.false in
    let most = c.loop-at.auto.at-end in
    let count = c.len-at-end.ensures in
    let all : c.loop-at.at ≡ length c.args.seats.now.items = omega arith in
    subst (λ seats. ArePosts (length c.args.seats.now.items + 1) seats) (sym c.in_ok-push-3.ensures.items)
    (grown _ _ _ _ _ c.requires all met c.loop-at.invariant.1 c.loop-at.invariant.2)
