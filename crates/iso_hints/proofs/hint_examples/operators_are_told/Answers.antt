use Rattle.std.proofs.Common.{refl}
use Rattle.iso_hints.proofs.hint_examples.operators_are_told.Goals as goal

pub returns-clause-single_quote : goal.returns-clause-single_quote
returns-clause-single_quote c = refl

pub returns-clause-backtick : goal.returns-clause-backtick
returns-clause-backtick c = refl

pub returns-clause-and_and : goal.returns-clause-and_and
returns-clause-and_and c = refl

pub returns-clause-or_or : goal.returns-clause-or_or
returns-clause-or_or c = refl

pub returns-clause-ampersand : goal.returns-clause-ampersand
returns-clause-ampersand c = refl

pub returns-clause-bar : goal.returns-clause-bar
returns-clause-bar c = refl

pub returns-clause-caret : goal.returns-clause-caret
returns-clause-caret c = refl

pub returns-clause-tilde : goal.returns-clause-tilde
returns-clause-tilde c = refl

pub returns-clause-equal_one_more_equals : goal.returns-clause-equal_one_more_equals
returns-clause-equal_one_more_equals c = refl

pub returns-clause-unequal_one_more_equals : goal.returns-clause-unequal_one_more_equals
returns-clause-unequal_one_more_equals c = refl

pub returns-clause-less_one_more_equals : goal.returns-clause-less_one_more_equals
returns-clause-less_one_more_equals c = refl

pub returns-clause-less_greater : goal.returns-clause-less_greater
returns-clause-less_greater c = refl

pub returns-clause-minus_greater : goal.returns-clause-minus_greater
returns-clause-minus_greater c = refl

pub returns-clause-one_more_equals_greater : goal.returns-clause-one_more_equals_greater
returns-clause-one_more_equals_greater c = refl

pub returns-clause-at_least : goal.returns-clause-at_least
returns-clause-at_least c = refl

pub returns-clause-greater : goal.returns-clause-greater
returns-clause-greater c = refl

pub returns-clause-plus_equals : goal.returns-clause-plus_equals
returns-clause-plus_equals c = refl

pub returns-clause-minus_equals : goal.returns-clause-minus_equals
returns-clause-minus_equals c = refl

pub returns-clause-star_equals : goal.returns-clause-star_equals
returns-clause-star_equals c = refl

pub returns-clause-arrow : goal.returns-clause-arrow
returns-clause-arrow c = refl

pub returns-clause-equal_less : goal.returns-clause-equal_less
returns-clause-equal_less c = refl
