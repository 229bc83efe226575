use Rattle.std.proofs.Common.{refl}
use Rattle.iso_hints.proofs.hint_examples.comments_are_passed_over.Goals as goal

pub returns-clause-above : goal.returns-clause-above
returns-clause-above c = refl

pub returns-clause-behind : goal.returns-clause-behind
returns-clause-behind c = refl

pub returns-clause-before : goal.returns-clause-before
returns-clause-before c = refl

pub returns-clause-at_the_beginning : goal.returns-clause-at_the_beginning
returns-clause-at_the_beginning c = refl

pub returns-clause-in_a_text : goal.returns-clause-in_a_text
returns-clause-in_a_text c = refl

pub returns-clause-behind_the_team : goal.returns-clause-behind_the_team
returns-clause-behind_the_team c = refl

pub returns-clause-first_class : goal.returns-clause-first_class
returns-clause-first_class c = refl
