-- Rules: what is told where something is wanted and something else is found.
use Rattle.std.specs.Prelude.{ℕ, List, Bool, ◌&&◌, Option, map, option_map}
use Rattle.std.specs.Borrow.{Bor}
use Rattle.std.specs.List.{find}
use Rattle.iso_explain.specs.Finds.{finds}
use Rattle.iso_explain.specs.Wants.{wants}
use Rattle.iso_explain.specs.declared.find.Find.{Find}
use Rattle.iso_explain.specs.declared.met.Met.{Met}
use Rattle.iso_explain.specs.declared.want.Want.{Want}
use Rattle.iso_explain.specs.declared.first.TheConstants as in_first
use Rattle.iso_explain.specs.declared.other.TheConstants as in_other

-- a rule: a kind of what is wanted, a kind of what is found, and what is told
pub record Rule : Type 0 where
  pub want : Want
  pub find : Find
  pub told : List ℕ

-- what a rule of the code is
abbrev pub CodeRule : Type 0
CodeRule = Want × Find × Bor (List ℕ)

abbrev pub rule_of : CodeRule → Rule
rule_of rule = record { want = rule.0; find = rule.1; told = rule.2.now }

-- the rule fits what is met
abbrev pub fits : Met → Rule → Bool
fits met rule = wants met rule.want && finds met rule.find

-- what the first of these rules tells that fits
abbrev pub told_in : List Rule → Met → Option (List ℕ)
told_in rules met = option_map (λ rule. rule.told) (find (fits met) rules)

-- the rules that the code lists
abbrev pub rules_of : List (Want × Find × record { now : List ℕ }) → List Rule
rules_of rules = map (λ rule. record { want = rule.0; find = rule.1; told = rule.2.now }) rules

-- the rules that say more than the table of hints, and those that are asked where it has none
abbrev pub first_rules : List Rule
first_rules = rules_of in_first.RULES.now

abbrev pub other_rules : List Rule
other_rules = rules_of in_other.RULES.now
