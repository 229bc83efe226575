use Rattle.std.proofs.Common.{ap, ◌∙◌, take}
use Rattle.iso_hints.specs.declared.nearest.Near.{Near}
use Rattle.iso_hints.proofs.NearestLemmas.{put-at}
use Rattle.iso_hints.proofs.nearest.keep.Goals as goal

pub returns : goal.returns
returns c =
    let new : Near = record { word = c.args.candidate; distance = c.in-Some.distance } in
    let put = put-at c.args.near.now.items c.deref.result.now new c.count_within-place.result c.count_within-place.ensures.count c.deref.ensures.value in
    rw c.in-Some.is (c.truncate.ensures.items ∙ ap (take c.args.count) (c.in_ok-insert.ensures.items ∙ put))
