use Rattle.std.proofs.Common.{ap, ◌∙◌, take}
use Rattle.iso_explain_plan.proofs.LargestLemmas.{put-at}
use Rattle.iso_explain_plan.proofs.largest.keep.Goals as goal

pub returns : goal.returns
returns c =
    let put = put-at c.args.largest.now.items c.deref.result.now c.args.size c.count_above-place.result c.count_above-place.ensures.count c.deref.ensures.value in
    c.truncate.ensures.items ∙ ap (take 3) (c.in_ok-insert.ensures.items ∙ put)
