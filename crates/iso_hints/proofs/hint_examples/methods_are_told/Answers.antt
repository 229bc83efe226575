use Rattle.std.proofs.Common.{refl}
use Rattle.iso_hints.proofs.hint_examples.methods_are_told.Goals as goal

pub returns-clause-system_dot_out : goal.returns-clause-system_dot_out
returns-clause-system_dot_out c = refl

pub returns-clause-system_dot_set_property : goal.returns-clause-system_dot_set_property
returns-clause-system_dot_set_property c = refl

pub returns-clause-system_dot_get_property : goal.returns-clause-system_dot_get_property
returns-clause-system_dot_get_property c = refl

pub returns-clause-system_dot_clear_property : goal.returns-clause-system_dot_clear_property
returns-clause-system_dot_clear_property c = refl

pub returns-clause-locale_dot_set_default : goal.returns-clause-locale_dot_set_default
returns-clause-locale_dot_set_default c = refl

pub returns-clause-locale_dot_get_default : goal.returns-clause-locale_dot_get_default
returns-clause-locale_dot_get_default c = refl

pub returns-clause-files_dot_any : goal.returns-clause-files_dot_any
returns-clause-files_dot_any c = refl

pub returns-clause-assertions_dot_any : goal.returns-clause-assertions_dot_any
returns-clause-assertions_dot_any c = refl

pub returns-clause-console_dot_any : goal.returns-clause-console_dot_any
returns-clause-console_dot_any c = refl

pub returns-clause-this_dot_any : goal.returns-clause-this_dot_any
returns-clause-this_dot_any c = refl

pub returns-clause-self_dot_any : goal.returns-clause-self_dot_any
returns-clause-self_dot_any c = refl

pub returns-clause-any_dot_length : goal.returns-clause-any_dot_length
returns-clause-any_dot_length c = refl

pub returns-clause-any_dot_size : goal.returns-clause-any_dot_size
returns-clause-any_dot_size c = refl

pub returns-clause-any_dot_equals : goal.returns-clause-any_dot_equals
returns-clause-any_dot_equals c = refl

pub returns-clause-any_dot_is_empty : goal.returns-clause-any_dot_is_empty
returns-clause-any_dot_is_empty c = refl
