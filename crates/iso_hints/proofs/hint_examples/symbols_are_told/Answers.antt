use Rattle.std.proofs.Common.{refl}
use Rattle.iso_hints.proofs.hint_examples.symbols_are_told.Goals as goal

pub returns-clause-plus_plus : goal.returns-clause-plus_plus
returns-clause-plus_plus c = refl

pub returns-clause-minus_minus : goal.returns-clause-minus_minus
returns-clause-minus_minus c = refl

pub returns-clause-assert_eq_bang : goal.returns-clause-assert_eq_bang
returns-clause-assert_eq_bang c = refl

pub returns-clause-println_bang : goal.returns-clause-println_bang
returns-clause-println_bang c = refl

pub returns-clause-slash : goal.returns-clause-slash
returns-clause-slash c = refl

pub returns-clause-percent : goal.returns-clause-percent
returns-clause-percent c = refl

pub returns-clause-question : goal.returns-clause-question
returns-clause-question c = refl

pub returns-clause-bracket : goal.returns-clause-bracket
returns-clause-bracket c = refl

pub returns-clause-dot : goal.returns-clause-dot
returns-clause-dot c = refl

pub returns-clause-backslash : goal.returns-clause-backslash
returns-clause-backslash c = refl

pub returns-clause-class_colon : goal.returns-clause-class_colon
returns-clause-class_colon c = refl

pub returns-clause-colons : goal.returns-clause-colons
returns-clause-colons c = refl

pub returns-clause-colon_equals : goal.returns-clause-colon_equals
returns-clause-colon_equals c = refl

pub returns-clause-colon : goal.returns-clause-colon
returns-clause-colon c = refl

pub returns-clause-let_equal : goal.returns-clause-let_equal
returns-clause-let_equal c = refl
