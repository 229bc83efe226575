use Rattle.std.proofs.Common.{refl}
use Rattle.iso_hints.proofs.hint_examples.modifiers_are_told.Goals as goal

pub returns-clause-import_word : goal.returns-clause-import_word
returns-clause-import_word c = refl

pub returns-clause-package_word : goal.returns-clause-package_word
returns-clause-package_word c = refl

pub returns-clause-final_word : goal.returns-clause-final_word
returns-clause-final_word c = refl

pub returns-clause-const_word : goal.returns-clause-const_word
returns-clause-const_word c = refl

pub returns-clause-protected_word : goal.returns-clause-protected_word
returns-clause-protected_word c = refl

pub returns-clause-pub_word : goal.returns-clause-pub_word
returns-clause-pub_word c = refl

pub returns-clause-export_word : goal.returns-clause-export_word
returns-clause-export_word c = refl

pub returns-clause-abstract_word : goal.returns-clause-abstract_word
returns-clause-abstract_word c = refl

pub returns-clause-interface_word : goal.returns-clause-interface_word
returns-clause-interface_word c = refl

pub returns-clause-static_class_word : goal.returns-clause-static_class_word
returns-clause-static_class_word c = refl

pub returns-clause-before_word : goal.returns-clause-before_word
returns-clause-before_word c = refl

pub returns-clause-after_word : goal.returns-clause-after_word
returns-clause-after_word c = refl

pub returns-clause-setup_word : goal.returns-clause-setup_word
returns-clause-setup_word c = refl

pub returns-clause-teardown_word : goal.returns-clause-teardown_word
returns-clause-teardown_word c = refl

pub returns-clause-ignore_word : goal.returns-clause-ignore_word
returns-clause-ignore_word c = refl
