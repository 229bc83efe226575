-- What operations take, in words.
use Rattle.std.specs.Prelude.{ℕ, List, codes}
use Rattle.iso_model.specs.Syntax.{let_name, assign, print, assert, assert_equal, assume, fail, set_prop, clear_prop, set_locale, write_file, append_file, delete_file, Act, plain, choice, repeat}
use Rattle.iso_model.specs.declared.tree.Comparison.{Comparison}
use Rattle.iso_model.specs.declared.tree.Comparison.TheVariants as C
use Rattle.iso_model.specs.declared.tree.Function.{Function}
use Rattle.iso_model.specs.declared.tree.Function.TheVariants as F
use Rattle.iso_model.specs.declared.tree.Operator.{Operator}
use Rattle.iso_model.specs.declared.tree.Operator.TheVariants as O

-- what an operator of a chain takes
abbrev pub chain_rule : Operator → List ℕ
chain_rule O.Add = codes "+ adds two whole numbers; ++ joins two texts"
chain_rule O.Subtract = codes "- takes two whole numbers"
chain_rule O.Multiply = codes "* takes two whole numbers"
chain_rule O.Join = codes "++ joins two texts; text(n) is the text of a number or truth value"

-- what a comparison takes
abbrev pub comparison_rule : Comparison → List ℕ
comparison_rule C.Equal = codes "== compares two values of one kind"
comparison_rule C.NotEqual = codes "!= compares two values of one kind"
comparison_rule C.Less = codes "< compares two whole numbers"

-- what a function takes
abbrev pub function_rule : Function → List ℕ
function_rule F.Text = codes "text takes a value of any kind"
function_rule F.Len = codes "len takes a text; len(text(n)) counts the digits of a number"
function_rule F.Prop = codes "prop takes a text, the name of a property"
function_rule F.HasProp = codes "has_prop takes a text, the name of a property"
function_rule F.File = codes "file takes a text, the path of a file"
function_rule F.HasFile = codes "has_file takes a text, the path of a file"

-- what a statement takes
unfoldable pub act_rule : Act → List ℕ
act_rule (plain (let_name x t)) = codes "let takes a value of any kind"
act_rule (plain (assign x t)) = codes "a name takes a value of any kind"
act_rule (plain (print t)) = codes "print takes a value of any kind"
act_rule (plain (fail x)) = codes "fail takes no value"
act_rule (plain (assert t)) = codes "assert takes a truth value, as == and < give it"
act_rule (plain (assume t x)) = codes "assume takes a truth value, as == and < give it"
act_rule (choice t a b) = codes "if takes a truth value, as == and < give it"
act_rule (repeat t a) = codes "repeat takes a whole number"
act_rule (plain (assert_equal t u)) = codes "assert_equal compares two values of one kind"
act_rule (plain (set_prop t u)) = codes "set_prop takes two texts; text(n) is the text of a number"
act_rule (plain (write_file t u)) =
    codes "write_file takes two texts; text(n) is the text of a number"
act_rule (plain (append_file t u)) =
    codes "append_file takes two texts; text(n) is the text of a number"
act_rule (plain (clear_prop t)) = codes "clear_prop takes a text, the name of a property"
act_rule (plain (set_locale t)) = codes "set_locale takes a text"
act_rule (plain (delete_file t)) = codes "delete_file takes a text, the path of a file"
