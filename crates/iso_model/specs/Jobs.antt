-- A body as a list of jobs: its blocks, in the order in which they are done (JUnit 5, test
-- lifecycle). A chain is a list of class heads, innermost first.
--
-- jobs of a body: A body as a list of jobs: a block with its words, how many of the body's names it
-- sees, and whether it is done only where all blocks before it ended well. Doing them from the left
-- is the test, the `before_all` or the `after_all` (`test_jobs`, `before_all_jobs`,
-- `after_all_jobs`, `with_jobs`).
-- Standard: JUnit 5 User Guide, test lifecycle.
use Rattle.std.specs.Prelude.{ℕ, List, [], ◌∷◌, ◌++◌, length, take, drop, Bool, true, false, ◌||◌, not, cond}
use Rattle.std.specs.List.{list_all}
use Rattle.iso_model.specs.Rights.{Rights}
use Rattle.iso_model.specs.Syntax.{Acts}
use Rattle.iso_model.specs.Statements.{State, is_well}
use Rattle.iso_model.specs.Blocks.{block}
use Rattle.iso_model.specs.Environments.{environment}
use Rattle.iso_model.specs.Chains.{ClassHead, TestHead}
use Rattle.iso_model.specs.Disabled.{acts_unless}
use Rattle.iso_model.specs.Names.{at_literals}
use Rattle.iso_model.specs.Openings.{Frame, words_of, statics_of}
use Rattle.iso_model.specs.Tests.{Body, names_in}
use Rattle.iso_model.specs.declared.names.Binding.{Binding}
use Rattle.iso_model.specs.declared.names.Sort.TheVariants.{Static}
use Rattle.iso_model.specs.declared.outcome.Ending.{Ending}
use Rattle.iso_model.specs.declared.place.BlockName.{BlockName}
use Rattle.iso_model.specs.declared.place.BlockName.TheVariants.{Test}
use Rattle.iso_model.specs.declared.place.Lifecycle.TheVariants.{BeforeAll, AfterAll, BeforeEach, AfterEach}

-- a block of a body: the words that name it, its statements, how many of the body's names it sees,
-- and whether it is done only where all blocks before it ended well
pub record Job : Type 0 where
  pub words : BlockName
  pub acts : Acts
  pub seen : ℕ
  pub needs_well : Bool

abbrev pub job : BlockName → Acts → ℕ → Bool → Job
job words acts seen needs_well =
    record { words = words; acts = acts; seen = seen; needs_well = needs_well }

-- whether a job is to be done after blocks that ended so
abbrev pub is_due : Job → List Ending → Bool
is_due j endings = not j.needs_well || list_all is_well endings

-- a body with one job more done: its block sees the first of the names
abbrev pub with_job : Rights → Job → Body → Body
with_job r j b =
    let s = block r j.acts (environment (take j.seen b.names) b.printed j.words) b.resources in
    record {
      names = s.here.env.names ++ drop j.seen b.names;
      resources = s.resources;
      printed = s.here.env.printed;
      lines = b.lines ++ s.here.lines;
      endings = b.endings ++ s.here.ending ∷ [];
    }

-- a body with one job more done, or left out
abbrev pub with_due : Rights → Job → Body → Body
with_due r j b = cond (is_due j b.endings) (with_job r j b) b

-- a body with all these jobs done, in order
abbrev pub with_jobs : Rights → List Job → Body → Body
with_jobs r [] b = b
with_jobs r (j ∷ js) b = with_jobs r js (with_due r j b)

-- a body of one block, which came to this
abbrev pub body_of_block : State → Body
body_of_block s =
    record {
      names = s.here.env.names;
      resources = s.resources;
      printed = s.here.env.printed;
      lines = s.here.lines;
      endings = s.here.ending ∷ [];
    }

-- the names that `before_all` of the innermost class begins with: the statics of the enclosing
-- classes, and its own at their literals
abbrev pub opening_names : ClassHead → List Frame → List Binding
opening_names c frames = statics_of frames ++ at_literals Static c.statics

-- `before_all` of the innermost class, which sees all names of its body, and `after_all`, which
-- sees all statics and has nothing to do where the class is disabled
abbrev pub before_all_jobs : ClassHead → List ClassHead → List Frame → List Job
before_all_jobs c cs frames =
    job (words_of (c ∷ cs) BeforeAll) c.before_all (length (opening_names c frames)) false ∷ []

abbrev pub after_all_jobs : ClassHead → List ClassHead → List Frame → List Job
after_all_jobs c cs frames = job (words_of (c ∷ cs) AfterAll) (acts_unless c.disabled c.after_all)
    (length (statics_of frames)) false ∷ []

-- `before_each` and `after_each` of the innermost class of a chain, and a test's own block
abbrev pub before_each_job : ClassHead → List ClassHead → Job
before_each_job c cs = job (words_of (c ∷ cs) BeforeEach) c.before_each (names_in (c ∷ cs)) true

abbrev pub after_each_job : ClassHead → List ClassHead → Job
after_each_job c cs = job (words_of (c ∷ cs) AfterEach) c.after_each (names_in (c ∷ cs)) false

abbrev pub test_job : TestHead → List ClassHead → Job
test_job t cs = job Test t.body (names_in cs) true

-- the `before_each` blocks, outermost first; the `after_each` blocks, innermost first
abbrev pub before_each_jobs : List ClassHead → List Job
before_each_jobs [] = []
before_each_jobs (c ∷ cs) = before_each_jobs cs ++ before_each_job c cs ∷ []

abbrev pub after_each_jobs : List ClassHead → List Job
after_each_jobs [] = []
after_each_jobs (c ∷ cs) = after_each_job c cs ∷ after_each_jobs cs

-- a whole test
abbrev pub test_jobs : TestHead → List ClassHead → List Job
test_jobs t cs = before_each_jobs cs ++ test_job t cs ∷ after_each_jobs cs
