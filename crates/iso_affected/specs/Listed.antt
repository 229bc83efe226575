-- Which nodes are told of: tests, and classes that run blocks of their own.
use Rattle.std.specs.Prelude.{Bool, true, false, ◌||◌}
use Rattle.iso_model.specs.Syntax.{Acts, no_acts, act}
use Rattle.iso_suites.specs.ScriptLanguage.{Head, of_class, of_test}

-- whether a block has a statement
abbrev pub has_statement : Acts → Bool
has_statement no_acts = false
has_statement (act row form rest) = true

-- whether a node with this head is told of: it is a test, or a class with a statement in its
-- `before_all` or its `after_all`
abbrev pub is_listed : Head → Bool
is_listed (of_class c) = has_statement c.before_all || has_statement c.after_all
is_listed (of_test t) = true
