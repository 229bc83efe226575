use Rattle.std.proofs.Common.{refl}
use Rattle.iso_hints.proofs.hint_examples.forms_are_told.Goals as goal

pub returns-clause-let_word : goal.returns-clause-let_word
returns-clause-let_word c = refl

pub returns-clause-assert_equal : goal.returns-clause-assert_equal
returns-clause-assert_equal c = refl

pub returns-clause-assume : goal.returns-clause-assume
returns-clause-assume c = refl

pub returns-clause-set_prop : goal.returns-clause-set_prop
returns-clause-set_prop c = refl

pub returns-clause-write_file : goal.returns-clause-write_file
returns-clause-write_file c = refl

pub returns-clause-append_file : goal.returns-clause-append_file
returns-clause-append_file c = refl

pub returns-clause-if_word : goal.returns-clause-if_word
returns-clause-if_word c = refl

pub returns-clause-else_word : goal.returns-clause-else_word
returns-clause-else_word c = refl

pub returns-clause-repeat : goal.returns-clause-repeat
returns-clause-repeat c = refl

pub returns-clause-test_word : goal.returns-clause-test_word
returns-clause-test_word c = refl

pub returns-clause-class_word : goal.returns-clause-class_word
returns-clause-class_word c = refl
