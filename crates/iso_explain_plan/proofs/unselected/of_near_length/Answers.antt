use Rattle.std.proofs.Common.{◌∙◌}
use Rattle.iso_explain_plan.specs.Unselected.{has_near_length}
use Rattle.iso_explain_plan.proofs.PathLemmas.{all-paths, next-path}
use Rattle.iso_explain_plan.proofs.unselected.of_near_length.Goals as goal

pub loop-text-preserved : goal.loop-text-preserved
loop-text-preserved c =
    next-path (has_near_length c.args.word.now) c.args.paths.now c.loop-text.text-index _ _ _ _ _ c.loop-text-test.true c.has_near_length.ensures
    (c.as_str-path.ensures ∙ c.text-item.is) c.loop-text.invariant c.in_ok-add_if.ensures

pub returns : goal.returns
returns c = all-paths (has_near_length c.args.word.now) c.args.paths.now c.loop-text.text-index _ c.loop-text-test.false c.loop-text.invariant
