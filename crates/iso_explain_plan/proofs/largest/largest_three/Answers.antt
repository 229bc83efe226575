use Rattle.std.proofs.Common.{List, ap, take, ◌∙◌}
use Rattle.std.proofs.lemmas.List.{take_all}
use Rattle.iso_explain_plan.specs.Largest.{by_size}
use Rattle.iso_explain_plan.specs.declared.size.Size.{Size}
use Rattle.iso_explain_plan.proofs.LargestLemmas.{largest-next}
use Rattle.iso_explain_plan.proofs.largest.largest_three.Goals as goal

pub loop-size-preserved : goal.loop-size-preserved
loop-size-preserved c =
    c.in_ok-keep.ensures ∙ largest-next c.args.sizes.now c.loop-size.size-index _ c.loop-size.largest.items c.loop-size-test.true c.loop-size.invariant

pub returns : goal.returns
returns c =
    c.loop-size.invariant ∙ ap (λ (l : List Size). take 3 (by_size l)) (take_all c.loop-size.size-index c.args.sizes.now c.loop-size-test.false)
