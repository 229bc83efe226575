-- What nodes have themselves.
use Rattle.iso_affected.specs.declared.own.OwnHead.{OwnHead}
use Rattle.iso_affected.specs.declared.own.OwnHead.TheVariants.{Class, Test}
use Rattle.iso_model.specs.ScriptView.{class_head_of, test_head_of}
use Rattle.iso_suites.specs.ScriptLanguage.{Head, of_class, of_test}

-- the head of a class or of a test that is lent
abbrev pub lent_head : OwnHead → Head
lent_head (Class c) = of_class (class_head_of c.now)
lent_head (Test t) = of_test (test_head_of t.now)
