-- The class chain of a test or a class, and the access rights that it gives.
--
-- class chain: The heads of the enclosing classes and the test's own: statics, fields, marks (in a
-- plan the effective ones), reasons why they are disabled, blocks; no names, modes, siblings or
-- descendants. A class in which nothing but members is written has the `empty_head`.
-- Also in: `ChainView`.
use Rattle.std.specs.Prelude.{ℕ, List, [], ◌∷◌, ◌++◌, Option, None}
use Rattle.iso_model.specs.Rights.{Rights, rights_of}
use Rattle.iso_model.specs.Syntax.{Acts, no_acts}
use Rattle.iso_model.specs.declared.heads.Mark.{Mark}
use Rattle.iso_model.specs.declared.heads.Variable.{Variable}

-- what a class gives to the tests under it, and why it is disabled, if it is; its name, its mode
-- and its members aren't in it
pub record ClassHead : Type 0 where
  pub statics : List Variable
  pub fields : List Variable
  pub marks : List Mark
  pub disabled : Option (List ℕ)
  pub before_all : Acts
  pub after_all : Acts
  pub before_each : Acts
  pub after_each : Acts

-- the head of a class in which nothing but members is written
abbrev pub empty_head : ClassHead
empty_head = record {
  statics = [];
  fields = [];
  marks = [];
  disabled = None;
  before_all = no_acts;
  after_all = no_acts;
  before_each = no_acts;
  after_each = no_acts;
}

-- what a test itself has, and why it is disabled, if it is
pub record TestHead : Type 0 where
  pub marks : List Mark
  pub disabled : Option (List ℕ)
  pub body : Acts

-- the marks of a list of classes, innermost first
abbrev pub marks_of : List ClassHead → List Mark
marks_of [] = []
marks_of (c ∷ cs) = c.marks ++ marks_of cs

-- the rights of `before_all` and `after_all`: those of their class and its enclosing classes
abbrev pub class_rights : List ClassHead → Rights
class_rights cs = rights_of (marks_of cs)

-- the rights of a test, its `before_each` and its `after_each`: those of the test and all its
-- enclosing classes
abbrev pub test_rights : TestHead → List ClassHead → Rights
test_rights t cs = rights_of (t.marks ++ marks_of cs)
