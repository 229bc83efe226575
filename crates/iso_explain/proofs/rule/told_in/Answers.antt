use Rattle.iso_explain.proofs.RuleLemmas.{rule-found, rule-none, rule-passed}
use Rattle.iso_explain.proofs.rule.told_in.Goals as goal

pub returns-then-fits : goal.returns-then-fits
returns-then-fits c =
    rule-found c.args.rules.now c.loop-rule.rule-index _ c.args.met c.fits.result c.loop-rule-test.true c.loop-rule.invariant c.fits.ensures c.if-fits.true

pub loop-rule-preserved : goal.loop-rule-preserved
loop-rule-preserved c =
    rule-passed c.args.rules.now c.loop-rule.rule-index _ c.args.met c.fits.result c.loop-rule-test.true c.loop-rule.invariant c.fits.ensures c.if-fits.false

pub returns : goal.returns
returns c = rule-none c.args.rules.now c.loop-rule.rule-index c.args.met c.loop-rule-test.false c.loop-rule.invariant
