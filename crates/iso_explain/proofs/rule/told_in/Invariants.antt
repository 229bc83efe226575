use Rattle.std.proofs.Common.{◌≡◌, drop, map}
use Rattle.iso_explain.specs.Rules.{rule_of, told_in}
use Rattle.iso_explain.proofs.rule.told_in.Given as goal

abbrev pub invariant-loop-rule : goal.invariant-loop-rule
invariant-loop-rule l = told_in (map rule_of l.rules) l.met ≡ told_in (map rule_of (drop l.rule-index l.rules)) l.met
