use Rattle.std.proofs.Common.{◌∙◌}
use Rattle.iso_explain_plan.specs.Unselected.{has_end}
use Rattle.iso_explain_plan.proofs.PathLemmas.{all-paths, next-path}
use Rattle.iso_explain_plan.proofs.unselected.ending.Goals as goal

pub loop-text-preserved : goal.loop-text-preserved
loop-text-preserved c =
    next-path (has_end c.args.end.now) c.args.paths.now c.loop-text.text-index _ _ _ _ _ c.loop-text-test.true c.has_end.ensures
    (c.as_str-path.ensures ∙ c.text-item.is) c.loop-text.invariant c.in_ok-add_if.ensures

pub returns : goal.returns
returns c = all-paths (has_end c.args.end.now) c.args.paths.now c.loop-text.text-index _ c.loop-text-test.false c.loop-text.invariant
