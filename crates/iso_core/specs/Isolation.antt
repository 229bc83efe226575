-- The isolation theorem, in the words of a core: whatever events it has accepted, what its finished
-- nodes came to is theirs alone.
--
-- isolation of a core: The outcome of each finished test and class is that of the node run alone
-- (`IsIsolated`); two cores have equal outcomes of nodes that agree (`AreUnaffected`).
use Rattle.std.specs.Prelude.{◌≡◌, ℕ, List, ◌∷◌, Some, None}
use Rattle.iso_core.specs.Cores.{CoreView, outcome_in}
use Rattle.iso_lifecycle.specs.Subjects.{started}
use Rattle.iso_model.specs.ChainAgreement.{ClassesAgree, TestsAgree}
use Rattle.iso_model.specs.Alone.{class_alone, test_alone}
use Rattle.iso_model.specs.Chains.{ClassHead, TestHead}
use Rattle.iso_model.specs.declared.outcome.Outcome.{Outcome}
use Rattle.iso_plan.specs.NodeChains.{chain_classes, chain_test}
use Rattle.iso_plan.specs.RowView.{tree_of}

-- a node of a core's plan is a test with this head, or a class with this head, in classes with
-- these heads, innermost first
pub record IsTest (c : CoreView) (n : ℕ) (t : TestHead) (cs : List ClassHead) : Type 0 where
  pub test : chain_test (tree_of c.plan) n ≡ Some t
  pub classes : chain_classes (tree_of c.plan) n ≡ cs

pub record IsClass (c : CoreView) (n : ℕ) (h : ClassHead) (cs : List ClassHead) : Type 0 where
  pub test : chain_test (tree_of c.plan) n ≡ None
  pub classes : chain_classes (tree_of c.plan) n ≡ h ∷ cs

-- The outcome of each finished test is that of the test run alone, on the starting values of the
-- keys that it and its classes are marked with; and so is that of each finished class.
pub record IsIsolated (c : CoreView) : Type 0 where
  pub tests : (n : ℕ) (t : TestHead) (cs : List ClassHead) (r : Outcome) → IsTest c n t cs
      → outcome_in c n ≡ Some r → r ≡ test_alone t cs (started c.world)
  pub classes : (n : ℕ) (h : ClassHead) (cs : List ClassHead) (r : Outcome) → IsClass c n h cs
      → outcome_in c n ≡ Some r → r ≡ class_alone h cs (started c.world)

-- Two cores, of whatever plans, worlds, workers and events, have equal outcomes of tests that agree
-- on their heads, on those of their classes and on the starting values of the keys that these are
-- marked with; and so of classes.
pub record AreUnaffected (c d : CoreView) : Type 0 where
  pub tests : (i j : ℕ) (t u : TestHead) (cs ds : List ClassHead) (r q : Outcome) → IsTest c i t cs
      → IsTest d j u ds
      → TestsAgree t cs (started c.world) u ds (started d.world) → outcome_in c i ≡ Some r
      → outcome_in d j ≡ Some q → r ≡ q
  pub classes : (i j : ℕ) (h k : ClassHead) (cs ds : List ClassHead) (r q : Outcome)
      → IsClass c i h cs → IsClass d j k ds
      → ClassesAgree h cs (started c.world) k ds (started d.world) → outcome_in c i ≡ Some r
      → outcome_in d j ≡ Some q → r ≡ q
