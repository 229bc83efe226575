use Rattle.std.proofs.Common.{refl}
use Rattle.iso_hints.proofs.hint_examples.beginnings_are_told.Goals as goal

pub returns-clause-byte_order_mark : goal.returns-clause-byte_order_mark
returns-clause-byte_order_mark c = refl

pub returns-clause-package : goal.returns-clause-package
returns-clause-package c = refl

pub returns-clause-import : goal.returns-clause-import
returns-clause-import c = refl

pub returns-clause-attribute : goal.returns-clause-attribute
returns-clause-attribute c = refl

pub returns-clause-hash : goal.returns-clause-hash
returns-clause-hash c = refl

pub returns-clause-star_comment : goal.returns-clause-star_comment
returns-clause-star_comment c = refl

pub returns-clause-other : goal.returns-clause-other
returns-clause-other c = refl

pub returns-clause-team_quote : goal.returns-clause-team_quote
returns-clause-team_quote c = refl

pub returns-clause-team_semicolon : goal.returns-clause-team_semicolon
returns-clause-team_semicolon c = refl

pub returns-clause-team_brace : goal.returns-clause-team_brace
returns-clause-team_brace c = refl

pub returns-clause-team : goal.returns-clause-team
returns-clause-team c = refl

pub returns-clause-team_named_test : goal.returns-clause-team_named_test
returns-clause-team_named_test c = refl

pub returns-clause-team_test : goal.returns-clause-team_test
returns-clause-team_test c = refl

pub returns-clause-team_dot : goal.returns-clause-team_dot
returns-clause-team_dot c = refl

pub returns-clause-team_minus : goal.returns-clause-team_minus
returns-clause-team_minus c = refl
