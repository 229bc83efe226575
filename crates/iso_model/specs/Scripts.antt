-- Scripts, as contracts see them.
use Rattle.std.specs.Prelude.{ℕ, List, Option, Bool}
use Rattle.iso_model.specs.Chains.{ClassHead, TestHead}
use Rattle.iso_model.specs.declared.script.Mode.{Mode}

-- a test as it is written
pub record Test : Type 0 where
  pub name : List ℕ
  pub display : Option (List ℕ)
  pub mode : Option Mode
  pub head : TestHead

-- what is written before a class's members
pub record ClassTitle : Type 0 where
  pub name : List ℕ
  pub display : Option (List ℕ)
  pub mode : Option Mode
  pub isolated : Bool
  pub head : ClassHead

-- a class as it is written, a member of one, and the members of one, in order
mutual
  pub data Class : Type 0 where
    class : ClassTitle → Members → Class

  pub data Member : Type 0 where
    class_member : Class → Member
    test_member : Test → Member

  pub data Members : Type 0 where
    no_members : Members
    member : Member → Members → Members

-- a script: a team's top-level classes
pub record Script : Type 0 where
  pub team : List ℕ
  pub classes : List Class
