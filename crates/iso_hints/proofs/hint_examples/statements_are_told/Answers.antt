use Rattle.std.proofs.Common.{refl}
use Rattle.iso_hints.proofs.hint_examples.statements_are_told.Goals as goal

pub returns-clause-get_prop_word : goal.returns-clause-get_prop_word
returns-clause-get_prop_word c = refl

pub returns-clause-get_prop_in_camel_case : goal.returns-clause-get_prop_in_camel_case
returns-clause-get_prop_in_camel_case c = refl

pub returns-clause-unset_prop_word : goal.returns-clause-unset_prop_word
returns-clause-unset_prop_word c = refl

pub returns-clause-remove_prop_word : goal.returns-clause-remove_prop_word
returns-clause-remove_prop_word c = refl

pub returns-clause-delete_word : goal.returns-clause-delete_word
returns-clause-delete_word c = refl

pub returns-clause-remove_file_word : goal.returns-clause-remove_file_word
returns-clause-remove_file_word c = refl

pub returns-clause-read_file_word : goal.returns-clause-read_file_word
returns-clause-read_file_word c = refl

pub returns-clause-read_file_in_camel_case : goal.returns-clause-read_file_in_camel_case
returns-clause-read_file_in_camel_case c = refl

pub returns-clause-assert_not_equal_word : goal.returns-clause-assert_not_equal_word
returns-clause-assert_not_equal_word c = refl

pub returns-clause-assert_not_same_in_camel_case : goal.returns-clause-assert_not_same_in_camel_case
returns-clause-assert_not_same_in_camel_case c = refl

pub returns-clause-assert_same_in_camel_case : goal.returns-clause-assert_same_in_camel_case
returns-clause-assert_same_in_camel_case c = refl

pub returns-clause-assert_throws_in_camel_case : goal.returns-clause-assert_throws_in_camel_case
returns-clause-assert_throws_in_camel_case c = refl

pub returns-clause-assert_does_not_throw_in_camel_case : goal.returns-clause-assert_does_not_throw_in_camel_case
returns-clause-assert_does_not_throw_in_camel_case c = refl

pub returns-clause-assert_null_in_camel_case : goal.returns-clause-assert_null_in_camel_case
returns-clause-assert_null_in_camel_case c = refl

pub returns-clause-assert_not_null_in_camel_case : goal.returns-clause-assert_not_null_in_camel_case
returns-clause-assert_not_null_in_camel_case c = refl

pub returns-clause-assert_all_in_camel_case : goal.returns-clause-assert_all_in_camel_case
returns-clause-assert_all_in_camel_case c = refl

pub returns-clause-expect_word : goal.returns-clause-expect_word
returns-clause-expect_word c = refl

pub returns-clause-sleep_word : goal.returns-clause-sleep_word
returns-clause-sleep_word c = refl

pub returns-clause-pass_word : goal.returns-clause-pass_word
returns-clause-pass_word c = refl

pub returns-clause-elseif_word : goal.returns-clause-elseif_word
returns-clause-elseif_word c = refl

pub returns-clause-elsif_word : goal.returns-clause-elsif_word
returns-clause-elsif_word c = refl

pub returns-clause-unless_word : goal.returns-clause-unless_word
returns-clause-unless_word c = refl

pub returns-clause-echo_word : goal.returns-clause-echo_word
returns-clause-echo_word c = refl

pub returns-clause-puts_word : goal.returns-clause-puts_word
returns-clause-puts_word c = refl
