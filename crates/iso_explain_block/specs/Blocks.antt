-- The blocks of a class chain, and what they see. Classes stand outermost first.
use Rattle.std.specs.Prelude.{ℕ, ◌-◌, List, Bool, true, false, Option, None, Some, ◌==◌, cond, slice_get, take}
use Rattle.iso_model.specs.Chains.{ClassHead, TestHead}
use Rattle.iso_model.specs.Syntax.{Acts, no_acts}
use Rattle.iso_model.specs.declared.place.BlockName.{BlockName}
use Rattle.iso_model.specs.declared.place.BlockName.TheVariants.{Test, Class}
use Rattle.iso_model.specs.declared.place.Lifecycle.{Lifecycle}
use Rattle.iso_model.specs.declared.place.Lifecycle.TheVariants.{BeforeAll, AfterAll, BeforeEach, AfterEach}

-- the class at a depth, which is 1 for a top-level one
abbrev pub class_at : (depth : ℕ) → List ClassHead → Option ClassHead
class_at depth heads = cond (depth == 0) None (slice_get heads (depth - 1))

-- a lifecycle block of a class
abbrev pub lifecycle_acts : Lifecycle → ClassHead → Acts
lifecycle_acts BeforeAll head = head.before_all
lifecycle_acts AfterAll head = head.after_all
lifecycle_acts BeforeEach head = head.before_each
lifecycle_acts AfterEach head = head.after_each

abbrev pub acts_of_test : Option TestHead → Acts
acts_of_test None = no_acts
acts_of_test (Some head) = head.body

abbrev pub acts_of_class : Lifecycle → Option ClassHead → Acts
acts_of_class kind None = no_acts
acts_of_class kind (Some head) = lifecycle_acts kind head

-- the statements of a block, or none where there is no such block
abbrev pub block_acts : BlockName → List ClassHead → Option TestHead → Acts
block_acts Test heads test = acts_of_test test
block_acts (Class depth kind) heads test = acts_of_class kind (class_at depth heads)

-- the classes whose names a block sees: its own, and those around it
abbrev pub visible_classes : BlockName → List ClassHead → List ClassHead
visible_classes Test heads = heads
visible_classes (Class depth kind) heads = take depth heads

-- whether a block sees fields
abbrev pub sees_fields : BlockName → Bool
sees_fields Test = true
sees_fields (Class depth BeforeEach) = true
sees_fields (Class depth AfterEach) = true
sees_fields (Class depth BeforeAll) = false
sees_fields (Class depth AfterAll) = false
