-- Test execution: the `before_each` blocks outermost first, the test, the `after_each` blocks
-- innermost first (JUnit 5, test lifecycle). A chain is a list of class heads, innermost first.
--
-- test execution: All fields at their literals; the `before_each` blocks outermost first until one
-- doesn't end well; the test if all did; every `after_each` innermost first (`test`); nothing of it
-- where the test is disabled. A block sees the names of its own class and the enclosing ones
-- (`seen_from`).
-- Standard: JUnit 5 User Guide, test lifecycle.
use Rattle.std.specs.Prelude.{ℕ, ◌+◌, List, [], ◌∷◌, ◌++◌, length, take, drop, Option, Some, None, cond}
use Rattle.std.specs.List.{list_all}
use Rattle.iso_model.specs.Rights.{Rights}
use Rattle.iso_model.specs.Resources.{Resources}
use Rattle.iso_model.specs.Names.{at_literals}
use Rattle.iso_model.specs.Syntax.{Acts}
use Rattle.iso_model.specs.Statements.{is_well}
use Rattle.iso_model.specs.Blocks.{block}
use Rattle.iso_model.specs.Environments.{environment}
use Rattle.iso_model.specs.Chains.{ClassHead, TestHead, test_rights}
use Rattle.iso_model.specs.Disabled.{disabled_ending}
use Rattle.iso_model.specs.Openings.{Frame, Opening, words_of}
use Rattle.iso_model.specs.declared.names.Binding.{Binding}
use Rattle.iso_model.specs.declared.names.Sort.TheVariants.{Field}
use Rattle.iso_model.specs.declared.outcome.Ending.{Ending}
use Rattle.iso_model.specs.declared.place.BlockName.{BlockName}
use Rattle.iso_model.specs.declared.place.BlockName.TheVariants.{Test}
use Rattle.iso_model.specs.declared.place.Lifecycle.TheVariants.{BeforeEach, AfterEach}

-- how far a test has come: its names, the resources, the bytes and lines printed, the endings of
-- its blocks so far
pub record Body : Type 0 where
  pub names : List Binding
  pub resources : Resources
  pub printed : ℕ
  pub lines : List (List ℕ)
  pub endings : List Ending

-- the names of a test: of each class, outermost first, its statics as its opening left them, and
-- its fields at their literals
abbrev pub test_names : List ClassHead → List Frame → List Binding
test_names [] frames = []
test_names (c ∷ cs) [] = []
test_names (c ∷ cs) (f ∷ fs) = test_names cs fs ++ f.statics ++ at_literals Field c.fields

-- how many of these names are of the classes of a chain
abbrev pub names_in : List ClassHead → ℕ
names_in [] = 0
names_in (c ∷ cs) = names_in cs + length c.statics + length c.fields

-- the names that a block of the innermost class of a chain sees, those of its classes; and the
-- others, of the classes inside it
abbrev pub seen_from : List ClassHead → List Binding → List Binding
seen_from cs names = take (names_in cs) names

abbrev pub unseen_from : List ClassHead → List Binding → List Binding
unseen_from cs names = drop (names_in cs) names

-- one block of a test, which sees the names of this chain of classes
abbrev pub block_of_test : Rights → BlockName → List ClassHead → Acts → Body → Body
block_of_test r words cs acts b =
    let s = block r acts (environment (seen_from cs b.names) b.printed words) b.resources in
    record {
      names = s.here.env.names ++ unseen_from cs b.names;
      resources = s.resources;
      printed = s.here.env.printed;
      lines = b.lines ++ s.here.lines;
      endings = b.endings ++ s.here.ending ∷ [];
    }

-- goes on only where all blocks so far ended well
abbrev pub where_well : (Body → Body) → Body → Body
where_well f b = cond (list_all is_well b.endings) (f b) b

-- the `before_each` blocks, outermost first, until one doesn't end well
abbrev pub before_each : Rights → List ClassHead → Body → Body
before_each r [] b = b
before_each r (c ∷ cs) b =
    where_well (block_of_test r (words_of (c ∷ cs) BeforeEach) (c ∷ cs) c.before_each)
    (before_each r cs b)

-- the `after_each` blocks, innermost first, each whatever the others did
abbrev pub after_each : Rights → List ClassHead → Body → Body
after_each r [] b = b
after_each r (c ∷ cs) b =
    after_each r cs (block_of_test r (words_of (c ∷ cs) AfterEach) (c ∷ cs) c.after_each b)

-- a test at its beginning, on what the opening of its chain left
abbrev pub begun_test : List ClassHead → Opening → Body
begun_test cs o = record {
  names = test_names cs o.frames;
  resources = o.resources;
  printed = 0;
  lines = [];
  endings = [];
}

-- all blocks of a test, which have the rights of the whole chain
abbrev pub blocks_of_test : TestHead → List ClassHead → Body → Body
blocks_of_test t cs b =
    let r = test_rights t cs in
    after_each r cs (where_well (block_of_test r Test cs t.body) (before_each r cs b))

-- what the blocks of a test come to; where the test is disabled, that none of them runs
abbrev pub blocks_unless : Option (List ℕ) → (Body → Body) → Body → Body
blocks_unless None blocks b = blocks b
blocks_unless (Some reason) blocks b = record b { endings = disabled_ending reason ∷ [] }

-- a test on what the opening of its chain left
abbrev pub test : TestHead → List ClassHead → Opening → Body
test t cs o = blocks_unless t.disabled (blocks_of_test t cs) (begun_test cs o)
