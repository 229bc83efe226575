use Rattle.std.proofs.Common.{refl}
use Rattle.iso_hints.proofs.hint_examples.ends_are_told.Goals as goal

pub returns-clause-assume_semicolon : goal.returns-clause-assume_semicolon
returns-clause-assume_semicolon c = refl

pub returns-clause-semicolon_semicolon : goal.returns-clause-semicolon_semicolon
returns-clause-semicolon_semicolon c = refl

pub returns-clause-closed_semicolon : goal.returns-clause-closed_semicolon
returns-clause-closed_semicolon c = refl

pub returns-clause-semicolon_brace : goal.returns-clause-semicolon_brace
returns-clause-semicolon_brace c = refl

pub returns-clause-brace_brace : goal.returns-clause-brace_brace
returns-clause-brace_brace c = refl

pub returns-clause-closed_closed : goal.returns-clause-closed_closed
returns-clause-closed_closed c = refl

pub returns-clause-second_operator : goal.returns-clause-second_operator
returns-clause-second_operator c = refl

pub returns-clause-class_word : goal.returns-clause-class_word
returns-clause-class_word c = refl

pub returns-clause-test_word : goal.returns-clause-test_word
returns-clause-test_word c = refl

pub returns-clause-static_word : goal.returns-clause-static_word
returns-clause-static_word c = refl

pub returns-clause-field_word : goal.returns-clause-field_word
returns-clause-field_word c = refl

pub returns-clause-let_word : goal.returns-clause-let_word
returns-clause-let_word c = refl

pub returns-clause-one_more : goal.returns-clause-one_more
returns-clause-one_more c = refl

pub returns-clause-static_class : goal.returns-clause-static_class
returns-clause-static_class c = refl

pub returns-clause-static_void : goal.returns-clause-static_void
returns-clause-static_void c = refl

pub returns-clause-final_word : goal.returns-clause-final_word
returns-clause-final_word c = refl

pub returns-clause-const_word : goal.returns-clause-const_word
returns-clause-const_word c = refl

pub returns-clause-static_final : goal.returns-clause-static_final
returns-clause-static_final c = refl

pub returns-clause-field_final : goal.returns-clause-field_final
returns-clause-field_final c = refl

pub returns-clause-static_const : goal.returns-clause-static_const
returns-clause-static_const c = refl

pub returns-clause-field_const : goal.returns-clause-field_const
returns-clause-field_const c = refl
