use Rattle.std.proofs.Common.{refl}
use Rattle.iso_hints.proofs.hint_examples.calls_are_told.Goals as goal

pub returns-clause-assert_equals : goal.returns-clause-assert_equals
returns-clause-assert_equals c = refl

pub returns-clause-assert_eq : goal.returns-clause-assert_eq
returns-clause-assert_eq c = refl

pub returns-clause-assert_equal : goal.returns-clause-assert_equal
returns-clause-assert_equal c = refl

pub returns-clause-assert_not_equals : goal.returns-clause-assert_not_equals
returns-clause-assert_not_equals c = refl

pub returns-clause-assert_true : goal.returns-clause-assert_true
returns-clause-assert_true c = refl

pub returns-clause-assert_false : goal.returns-clause-assert_false
returns-clause-assert_false c = refl

pub returns-clause-assert_that : goal.returns-clause-assert_that
returns-clause-assert_that c = refl

pub returns-clause-assume_true : goal.returns-clause-assume_true
returns-clause-assume_true c = refl

pub returns-clause-assume_false : goal.returns-clause-assume_false
returns-clause-assume_false c = refl

pub returns-clause-println : goal.returns-clause-println
returns-clause-println c = refl

pub returns-clause-not : goal.returns-clause-not
returns-clause-not c = refl

pub returns-clause-unequal : goal.returns-clause-unequal
returns-clause-unequal c = refl

pub returns-clause-bang : goal.returns-clause-bang
returns-clause-bang c = refl

pub returns-clause-and : goal.returns-clause-and
returns-clause-and c = refl

pub returns-clause-or : goal.returns-clause-or
returns-clause-or c = refl

pub returns-clause-is_word : goal.returns-clause-is_word
returns-clause-is_word c = refl

pub returns-clause-text : goal.returns-clause-text
returns-clause-text c = refl

pub returns-clause-len : goal.returns-clause-len
returns-clause-len c = refl

pub returns-clause-prop : goal.returns-clause-prop
returns-clause-prop c = refl

pub returns-clause-has_prop : goal.returns-clause-has_prop
returns-clause-has_prop c = refl

pub returns-clause-file : goal.returns-clause-file
returns-clause-file c = refl

pub returns-clause-has_file : goal.returns-clause-has_file
returns-clause-has_file c = refl

pub returns-clause-locale : goal.returns-clause-locale
returns-clause-locale c = refl

pub returns-clause-fail : goal.returns-clause-fail
returns-clause-fail c = refl

pub returns-clause-numeral : goal.returns-clause-numeral
returns-clause-numeral c = refl
