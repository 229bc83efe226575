-- The opening of a class chain: each `before_all`, outermost first, until one doesn't end well
-- (JUnit 5, test lifecycle). A chain is a list of class heads, innermost first.
--
-- opening of a class chain: Each `before_all`, outermost first, until one doesn't end well; it
-- leaves a frame for each class: its statics, frozen, its ending and its lines (`opening`). A
-- disabled class's is left out, which doesn't end well.
-- Standard: JUnit 5 User Guide, test lifecycle.
use Rattle.std.specs.Prelude.{ℕ, List, [], ◌∷◌, ◌++◌, length, drop, Bool, true, cond}
use Rattle.iso_model.specs.Resources.{Resources}
use Rattle.iso_model.specs.Names.{at_literals, frozen}
use Rattle.iso_model.specs.Statements.{State, is_well}
use Rattle.iso_model.specs.Disabled.{block_unless}
use Rattle.iso_model.specs.Environments.{environment}
use Rattle.iso_model.specs.Chains.{ClassHead, class_rights}
use Rattle.iso_model.specs.declared.names.Binding.{Binding}
use Rattle.iso_model.specs.declared.names.Sort.TheVariants.{Static}
use Rattle.iso_model.specs.declared.outcome.Ending.{Ending}
use Rattle.iso_model.specs.declared.place.BlockName.{BlockName}
use Rattle.iso_model.specs.declared.place.BlockName.TheVariants.{Class}
use Rattle.iso_model.specs.declared.place.Lifecycle.{Lifecycle}
use Rattle.iso_model.specs.declared.place.Lifecycle.TheVariants.{BeforeAll}

-- what an ended `before_all` leaves of its class: its statics, which nothing assigns from now on,
-- its ending and its lines
pub record Frame : Type 0 where
  pub statics : List Binding
  pub ending : Ending
  pub lines : List (List ℕ)

-- what the opening of a chain leaves: a frame of each class whose `before_all` ran, innermost
-- first, the resources, and whether all ended well
pub record Opening : Type 0 where
  pub frames : List Frame
  pub resources : Resources
  pub well : Bool

-- the words of a lifecycle block of the innermost class of a chain
abbrev pub words_of : List ClassHead → Lifecycle → BlockName
words_of cs kind = Class (length cs) kind

-- the statics of opened classes, those of the outermost first
abbrev pub statics_of : List Frame → List Binding
statics_of [] = []
statics_of (f ∷ fs) = statics_of fs ++ f.statics

-- `before_all` of the innermost class: it sees the statics of the enclosing classes, and its own at
-- their literals. A disabled class's is left out.
abbrev pub before_all : ClassHead → List ClassHead → Opening → State
before_all c cs o =
    block_unless c.disabled (class_rights (c ∷ cs)) c.before_all
    (environment (statics_of o.frames ++ at_literals Static c.statics) 0
    (words_of (c ∷ cs) BeforeAll)) o.resources

-- the opening with the innermost class's `before_all` ended
abbrev pub opened : Opening → State → Opening
opened o s =
    record {
      frames = record {
        statics = frozen (drop (length (statics_of o.frames)) s.here.env.names);
        ending = s.here.ending;
        lines = s.here.lines;
      } ∷ o.frames;
      resources = s.resources;
      well = is_well s.here.ending;
    }

-- the opening of a chain: where an enclosing class's didn't end well, that is the answer
abbrev pub opening : List ClassHead → Resources → Opening
opening [] m = record { frames = []; resources = m; well = true }
opening (c ∷ cs) m = let o = opening cs m in cond o.well (opened o (before_all c cs o)) o
