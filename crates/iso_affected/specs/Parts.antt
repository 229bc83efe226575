-- The parts of a head. What a class or a test doesn't have is empty.
--
-- parts of a head: Of a class or a test its statics, its fields, why it is disabled, its lifecycle
-- blocks and its body, which are empty where it has none (`statics_on`, `fields_on`, `disabled_on`,
-- `lifecycle_on`, `body_on`); the statements of a block with their rows (`statements`); the head
-- that is lent (`lent_head`).
-- Also in: `OwnHeads`.
use Rattle.std.specs.Prelude.{ℕ, List, [], ◌∷◌, Option}
use Rattle.iso_model.specs.Syntax.{Act, Acts, no_acts, act}
use Rattle.iso_model.specs.declared.heads.Variable.{Variable}
use Rattle.iso_model.specs.declared.place.Lifecycle.{Lifecycle}
use Rattle.iso_model.specs.declared.place.Lifecycle.TheVariants.{BeforeAll, AfterAll, BeforeEach, AfterEach}
use Rattle.iso_suites.specs.ScriptLanguage.{Head, of_class, of_test}

-- the statements of a block, each with its row
abbrev pub statements : Acts → List (ℕ × Act)
statements no_acts = []
statements (act row form rest) = (row, form) ∷ statements rest

-- the statics of a class, and its fields
abbrev pub statics_on : Head → List Variable
statics_on (of_class c) = c.statics
statics_on (of_test t) = []

abbrev pub fields_on : Head → List Variable
fields_on (of_class c) = c.fields
fields_on (of_test t) = []

-- why a class or a test is disabled, if it is
abbrev pub disabled_on : Head → Option (List ℕ)
disabled_on (of_class c) = c.disabled
disabled_on (of_test t) = t.disabled

-- a lifecycle block of a class
abbrev pub lifecycle_on : Lifecycle → Head → Acts
lifecycle_on BeforeAll (of_class c) = c.before_all
lifecycle_on AfterAll (of_class c) = c.after_all
lifecycle_on BeforeEach (of_class c) = c.before_each
lifecycle_on AfterEach (of_class c) = c.after_each
lifecycle_on kind (of_test t) = no_acts

-- the body of a test
abbrev pub body_on : Head → Acts
body_on (of_class c) = no_acts
body_on (of_test t) = t.body
