use Rattle.std.proofs.Common.{refl}
use Rattle.iso_hints.proofs.hint_examples.heads_are_told.Goals as goal

pub returns-clause-test_quote : goal.returns-clause-test_quote
returns-clause-test_quote c = refl

pub returns-clause-class_quote : goal.returns-clause-class_quote
returns-clause-class_quote c = refl

pub returns-clause-isolated_test : goal.returns-clause-isolated_test
returns-clause-isolated_test c = refl

pub returns-clause-read_children_test : goal.returns-clause-read_children_test
returns-clause-read_children_test c = refl

pub returns-clause-write_children_test : goal.returns-clause-write_children_test
returns-clause-write_children_test c = refl

pub returns-clause-disabled_test : goal.returns-clause-disabled_test
returns-clause-disabled_test c = refl

pub returns-clause-disabled_class : goal.returns-clause-disabled_class
returns-clause-disabled_class c = refl

pub returns-clause-read_file : goal.returns-clause-read_file
returns-clause-read_file c = refl

pub returns-clause-write_file : goal.returns-clause-write_file
returns-clause-write_file c = refl

pub returns-clause-one_more_equals_null : goal.returns-clause-one_more_equals_null
returns-clause-one_more_equals_null c = refl

pub returns-clause-one_more_equals_none : goal.returns-clause-one_more_equals_none
returns-clause-one_more_equals_none c = refl

pub returns-clause-one_more_equals_true : goal.returns-clause-one_more_equals_true
returns-clause-one_more_equals_true c = refl

pub returns-clause-one_more_equals_false : goal.returns-clause-one_more_equals_false
returns-clause-one_more_equals_false c = refl

pub returns-clause-static_word : goal.returns-clause-static_word
returns-clause-static_word c = refl

pub returns-clause-field_word : goal.returns-clause-field_word
returns-clause-field_word c = refl

pub returns-clause-operator_of_a_static : goal.returns-clause-operator_of_a_static
returns-clause-operator_of_a_static c = refl

pub returns-clause-extends : goal.returns-clause-extends
returns-clause-extends c = refl

pub returns-clause-implements : goal.returns-clause-implements
returns-clause-implements c = refl

pub returns-clause-throws : goal.returns-clause-throws
returns-clause-throws c = refl

pub returns-clause-read_system_properties : goal.returns-clause-read_system_properties
returns-clause-read_system_properties c = refl

pub returns-clause-write_system_properties : goal.returns-clause-write_system_properties
returns-clause-write_system_properties c = refl

pub returns-clause-read_minus : goal.returns-clause-read_minus
returns-clause-read_minus c = refl

pub returns-clause-read_write_word : goal.returns-clause-read_write_word
returns-clause-read_write_word c = refl

pub returns-clause-read_write_constant : goal.returns-clause-read_write_constant
returns-clause-read_write_constant c = refl
