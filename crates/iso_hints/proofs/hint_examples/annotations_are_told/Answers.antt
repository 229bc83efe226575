use Rattle.std.proofs.Common.{refl}
use Rattle.iso_hints.proofs.hint_examples.annotations_are_told.Goals as goal

pub returns-clause-at_test : goal.returns-clause-at_test
returns-clause-at_test c = refl

pub returns-clause-at_before_each : goal.returns-clause-at_before_each
returns-clause-at_before_each c = refl

pub returns-clause-at_before_all : goal.returns-clause-at_before_all
returns-clause-at_before_all c = refl

pub returns-clause-at_after_each : goal.returns-clause-at_after_each
returns-clause-at_after_each c = refl

pub returns-clause-at_after_all : goal.returns-clause-at_after_all
returns-clause-at_after_all c = refl

pub returns-clause-at_before : goal.returns-clause-at_before
returns-clause-at_before c = refl

pub returns-clause-at_after : goal.returns-clause-at_after
returns-clause-at_after c = refl

pub returns-clause-at_disabled : goal.returns-clause-at_disabled
returns-clause-at_disabled c = refl

pub returns-clause-at_ignore : goal.returns-clause-at_ignore
returns-clause-at_ignore c = refl

pub returns-clause-at_nested : goal.returns-clause-at_nested
returns-clause-at_nested c = refl

pub returns-clause-at_display_name : goal.returns-clause-at_display_name
returns-clause-at_display_name c = refl

pub returns-clause-at_isolated : goal.returns-clause-at_isolated
returns-clause-at_isolated c = refl

pub returns-clause-at_execution : goal.returns-clause-at_execution
returns-clause-at_execution c = refl

pub returns-clause-at_resource_lock : goal.returns-clause-at_resource_lock
returns-clause-at_resource_lock c = refl

pub returns-clause-at_repeated_test : goal.returns-clause-at_repeated_test
returns-clause-at_repeated_test c = refl

pub returns-clause-other_annotations : goal.returns-clause-other_annotations
returns-clause-other_annotations c = refl
