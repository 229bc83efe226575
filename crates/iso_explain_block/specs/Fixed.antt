-- Limits and rules that say the same of each statement.
use Rattle.std.specs.Prelude.{ℕ, List, [], Bool, true, false, ◌==◌, codes, cond, is_some, length}
use Rattle.iso_explain_block.specs.Lines.{with_line}
use Rattle.iso_explain_block.specs.Messages.{after}
use Rattle.iso_explain_block.specs.declared.fixed.Rules.{Rules}
use Rattle.iso_model.specs.declared.fault.FaultKind.{FaultKind}
use Rattle.iso_model.specs.declared.fault.FaultKind.TheVariants as K

-- up to three lines, of which those that aren't wanted are empty
pub record RulesView : Type 0 where
  pub first : List ℕ
  pub second : List ℕ
  pub third : List ℕ

abbrev pub rules_of : Rules → RulesView
rules_of r = record { first = r.first.now; second = r.second.now; third = r.third.now }

abbrev pub one_rule : List ℕ → RulesView
one_rule first = record { first = first; second = []; third = [] }

abbrev pub two_rules : List ℕ → List ℕ → RulesView
two_rules first second = record { first = first; second = second; third = [] }

-- what gives a file, and a property
abbrev pub missing_rules : (of_file : Bool) → RulesView
missing_rules true =
    record {
      first = codes "write_file makes a file, and [files] of a world from the start";
      second =
          codes "what a test changes is taken back after it; before_all makes it for each test of its class";
      third = codes "has_file tells whether a file is there";
    }
missing_rules false =
    record {
      first = codes "set_prop gives a property a value, and [properties] of a world from the start";
      second =
          codes "what a test changes is taken back after it; before_all makes it for each test of its class";
      third = codes "has_prop tells whether a property is there";
    }

-- the limit or rule of a kind of fault
unfoldable pub kind_rules : FaultKind → (of_file : Bool) → RulesView
kind_rules K.Overflow of_file = one_rule
    (codes "+, - and * give whole numbers from -9223372036854775808 to 9223372036854775807")
kind_rules K.DoubleName of_file =
    two_rules (codes
    "let gives a name that isn't visible yet; statics and fields of the classes around are")
    (codes "without let, NAME = VALUE; gives a let or a field another value")
kind_rules K.Frozen of_file =
    two_rules (codes "a static takes another value in before_all of its own class alone")
    (codes "a field takes one in tests, before_each and after_each, and each test has its own")
kind_rules K.Missing of_file = missing_rules of_file
kind_rules K.BadCount of_file = one_rule (codes "repeat takes a number of turns that is at least 0")
kind_rules K.OutOfSteps of_file =
    one_rule (codes
    "a block takes at most 10000 steps: a statement is one, and so is each turn of a repeat")
kind_rules K.OutputFull of_file =
    two_rules (codes "a body prints at most 65536 bytes, one for each line's end among them")
    (codes "what before_each and after_each print counts with their test")
kind_rules K.TextTooLong of_file =
    one_rule (codes "a text has at most 4096 bytes, also one that ++ joins or append_file makes")
kind_rules _ of_file = one_rule []

-- lines with one more that isn't empty, and with those of rules
unfoldable pub with_rule : List ℕ → List (List ℕ) → List (List ℕ)
with_rule rule lines = cond (length rule == 0) lines (with_line rule lines)

abbrev pub with_rules : RulesView → List (List ℕ) → List (List ℕ)
with_rules rules lines =
    with_rule rules.third (with_rule rules.second (with_rule rules.first lines))

-- lines with those of a kind of fault more
abbrev pub fixed_lines : FaultKind → (message : List ℕ) → List (List ℕ) → List (List ℕ)
fixed_lines kind message lines =
    with_rules (kind_rules kind (is_some (after (codes "missing file ") message))) lines
