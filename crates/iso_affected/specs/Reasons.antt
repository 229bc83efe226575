-- Why two nodes don't agree: what differs of what each node on their path has itself.
--
-- reasons of a change: What a node on the path of a changed one has otherwise than its namesake:
-- whether one is a test and the other a class, what they declare (`AreDeclaredApart`), their blocks
-- (`AreBlocksApart`), the first of its marks whose key starts with another value (`IsFirstApart`),
-- all of it together (`IsDifference`), and where nothing is (`is_nothing`); a node agrees with its
-- namesake where all on its path agree with theirs on what they have themselves (`AgreesItself`,
-- `AllAgree`).
use Rattle.std.specs.Prelude.{◌≡◌, ◌↔◌, ℕ, ◌<◌, IsFalse, List, Bool, ◌&&◌, not, is_none, Option, Some, None, true, length, slice_index_or, take}
use Rattle.iso_affected.specs.Agreeing.{OwnAgree}
use Rattle.iso_affected.specs.Fates.{Suites}
use Rattle.iso_affected.specs.Firsts.{AreRowsApart, IsFirst}
use Rattle.iso_affected.specs.Namesakes.{namesake}
use Rattle.iso_affected.specs.Parts.{body_on, disabled_on, fields_on, lifecycle_on, statements, statics_on}
use Rattle.iso_affected.specs.declared.difference.Blocks.{Blocks}
use Rattle.iso_affected.specs.declared.difference.Declared.{Declared}
use Rattle.iso_affected.specs.declared.difference.Difference.{Difference}
use Rattle.iso_lifecycle.specs.Subjects.{started}
use Rattle.iso_model.specs.ChainAgreement.{EqualAt}
use Rattle.iso_model.specs.Rights.{rights_of}
use Rattle.iso_model.specs.declared.heads.Mark.{Mark}
use Rattle.iso_model.specs.declared.place.Lifecycle.TheVariants.{BeforeAll, AfterAll, BeforeEach, AfterEach}
use Rattle.iso_plan.specs.Paths.{is_on, path, row_at}
use Rattle.iso_plan.specs.RowView.{tree_of}
use Rattle.iso_settings.specs.Worlds.{Start, starting_value_in}
use Rattle.iso_suites.specs.PlanSuites.{head_of}
use Rattle.iso_suites.specs.ScriptLanguage.{Head, is_of_test, marks_on}

-- the mark at a place names a key that starts with another value, and no mark before it does
pub record StartsApart (before after : Start) (marks : List Mark) (place : ℕ) : Type 0 where
  pub within : place < length marks
  pub apart : (d : Mark) → starting_value_in before (slice_index_or marks place d).key
      ≡ starting_value_in after (slice_index_or marks place d).key → ⊥
  pub first : EqualAt (rights_of (take place marks)) (started before) (started after)

-- the first of some marks whose key starts with another value, by its place
abbrev pub IsFirstApart : Start → Start → List Mark → Option ℕ → Type 0
IsFirstApart before after marks None = EqualAt (rights_of marks) (started before) (started after)
IsFirstApart before after marks (Some place) = StartsApart before after marks place

-- what differs of what two heads declare: their marks, why they are disabled, and the first place
-- where their statics and their fields differ
pub record AreDeclaredApart (h g : Head) (d : Declared) : Type 0 where
  pub marks : IsFalse d.marks ↔ (marks_on h ≡ marks_on g)
  pub disabled : IsFalse d.disabled ↔ (disabled_on h ≡ disabled_on g)
  pub statics : IsFirst (statics_on h) (statics_on g) d.statics
  pub fields : IsFirst (fields_on h) (fields_on g) d.fields

-- where the blocks of two heads differ first
pub record AreBlocksApart (h g : Head) (b : Blocks) : Type 0 where
  pub before_all : AreRowsApart (statements (lifecycle_on BeforeAll h))
      (statements (lifecycle_on BeforeAll g)) b.before_all
  pub after_all : AreRowsApart (statements (lifecycle_on AfterAll h))
      (statements (lifecycle_on AfterAll g)) b.after_all
  pub before_each : AreRowsApart (statements (lifecycle_on BeforeEach h))
      (statements (lifecycle_on BeforeEach g)) b.before_each
  pub after_each : AreRowsApart (statements (lifecycle_on AfterEach h))
      (statements (lifecycle_on AfterEach g)) b.after_each
  pub test : AreRowsApart (statements (body_on h)) (statements (body_on g)) b.test

-- what differs of two heads: whether one is a test and the other a class, what they declare, their
-- blocks, and the first of the second's marks whose key starts with another value
pub record IsDifference (before after : Start) (h g : Head) (d : Difference) : Type 0 where
  pub kind : IsFalse d.kind ↔ (is_of_test h ≡ is_of_test g)
  pub declared : AreDeclaredApart h g d.declared
  pub blocks : AreBlocksApart h g d.blocks
  pub start : IsFirstApart before after (marks_on g) d.start

-- whether nothing is told to differ
abbrev pub declares_alike : Declared → Bool
declares_alike d = not d.marks && not d.disabled && is_none d.statics && is_none d.fields

abbrev pub blocks_alike : Blocks → Bool
blocks_alike b = is_none b.before_all && is_none b.after_all && is_none b.before_each
    && is_none b.after_each && is_none b.test

abbrev pub is_nothing : Difference → Bool
is_nothing d = not d.kind && declares_alike d.declared && blocks_alike d.blocks && is_none d.start

-- a node of the new suite agrees with its namesake, if it has one, on what the node has itself
abbrev pub AgreesItself : Suites → ℕ → Type 0
AgreesItself s n = (m : ℕ) → namesake (tree_of s.old) (tree_of s.new) n ≡ Some m
    → OwnAgree s.before s.after (head_of (row_at (tree_of s.old) m).kind)
    (head_of (row_at (tree_of s.new) n).kind)

-- so does each node on its path: the node and its enclosing classes
abbrev pub AllAgree : Suites → ℕ → Type 0
AllAgree s n = (k : ℕ) → is_on (path (tree_of s.new) n) k ≡ true → AgreesItself s k
