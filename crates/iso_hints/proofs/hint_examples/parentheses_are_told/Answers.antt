use Rattle.std.proofs.Common.{refl}
use Rattle.iso_hints.proofs.hint_examples.parentheses_are_told.Goals as goal

pub returns-clause-test_parenthesis : goal.returns-clause-test_parenthesis
returns-clause-test_parenthesis c = refl

pub returns-clause-class_parenthesis : goal.returns-clause-class_parenthesis
returns-clause-class_parenthesis c = refl

pub returns-clause-before_each_parenthesis : goal.returns-clause-before_each_parenthesis
returns-clause-before_each_parenthesis c = refl

pub returns-clause-before_all_parenthesis : goal.returns-clause-before_all_parenthesis
returns-clause-before_all_parenthesis c = refl

pub returns-clause-after_each_parenthesis : goal.returns-clause-after_each_parenthesis
returns-clause-after_each_parenthesis c = refl

pub returns-clause-after_all_parenthesis : goal.returns-clause-after_all_parenthesis
returns-clause-after_all_parenthesis c = refl

pub returns-clause-read_parenthesis : goal.returns-clause-read_parenthesis
returns-clause-read_parenthesis c = refl

pub returns-clause-write_parenthesis : goal.returns-clause-write_parenthesis
returns-clause-write_parenthesis c = refl

pub returns-clause-disabled_parenthesis : goal.returns-clause-disabled_parenthesis
returns-clause-disabled_parenthesis c = refl

pub returns-clause-concurrent_parenthesis : goal.returns-clause-concurrent_parenthesis
returns-clause-concurrent_parenthesis c = refl

pub returns-clause-same_thread_parenthesis : goal.returns-clause-same_thread_parenthesis
returns-clause-same_thread_parenthesis c = refl

pub returns-clause-isolated_parenthesis : goal.returns-clause-isolated_parenthesis
returns-clause-isolated_parenthesis c = refl

pub returns-clause-disabled_parenthesis_again : goal.returns-clause-disabled_parenthesis_again
returns-clause-disabled_parenthesis_again c = refl

pub returns-clause-read_parenthesis_again : goal.returns-clause-read_parenthesis_again
returns-clause-read_parenthesis_again c = refl

pub returns-clause-write_parenthesis_again : goal.returns-clause-write_parenthesis_again
returns-clause-write_parenthesis_again c = refl

pub returns-clause-assert_equal_parenthesis_comma : goal.returns-clause-assert_equal_parenthesis_comma
returns-clause-assert_equal_parenthesis_comma c = refl

pub returns-clause-assert_equal_parenthesis_comma_again : goal.returns-clause-assert_equal_parenthesis_comma_again
returns-clause-assert_equal_parenthesis_comma_again c = refl

pub returns-clause-assert_equal_comma : goal.returns-clause-assert_equal_comma
returns-clause-assert_equal_comma c = refl

pub returns-clause-assert_parenthesis_comma : goal.returns-clause-assert_parenthesis_comma
returns-clause-assert_parenthesis_comma c = refl

pub returns-clause-assert_comma : goal.returns-clause-assert_comma
returns-clause-assert_comma c = refl

pub returns-clause-assume_parenthesis_comma : goal.returns-clause-assume_parenthesis_comma
returns-clause-assume_parenthesis_comma c = refl

pub returns-clause-set_prop_parenthesis_comma : goal.returns-clause-set_prop_parenthesis_comma
returns-clause-set_prop_parenthesis_comma c = refl

pub returns-clause-write_file_parenthesis_comma : goal.returns-clause-write_file_parenthesis_comma
returns-clause-write_file_parenthesis_comma c = refl

pub returns-clause-append_file_parenthesis_comma : goal.returns-clause-append_file_parenthesis_comma
returns-clause-append_file_parenthesis_comma c = refl

pub returns-clause-print_comma : goal.returns-clause-print_comma
returns-clause-print_comma c = refl

pub returns-clause-let_comma : goal.returns-clause-let_comma
returns-clause-let_comma c = refl

pub returns-clause-before_each_other : goal.returns-clause-before_each_other
returns-clause-before_each_other c = refl

pub returns-clause-before_all_other : goal.returns-clause-before_all_other
returns-clause-before_all_other c = refl

pub returns-clause-after_each_other : goal.returns-clause-after_each_other
returns-clause-after_each_other c = refl

pub returns-clause-after_all_other : goal.returns-clause-after_all_other
returns-clause-after_all_other c = refl
