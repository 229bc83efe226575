-- The suite of a plan: its tree with its paths, modes and locks, and the starting values of a
-- world; and what its runs may end with.
--
-- suite of a plan: A tree with its paths, modes and locks, and the starting values (`suite_of`);
-- what is run, with the paths of what is kept (`Launch`, `launched`); that a node is a test or a
-- class with these heads (`IsTestAt`, `IsClassAt`), and has this outcome in some run (`MayEnd`).
-- Standard: JUnit 5 User Guide, parallel execution.
use Rattle.std.specs.Prelude.{◌≡◌, ℕ, List, ◌∷◌, Some, None, Bool, true, false, length}
use Rattle.iso_suites.specs.ScriptLanguage.{Head, of_class, of_test, scripts}
use Rattle.iso_isolation.specs.Isolation.{Gives}
use Rattle.iso_isolation.specs.Suites.{Suite}
use Rattle.iso_model.specs.Chains.{ClassHead, TestHead, empty_head}
use Rattle.iso_model.specs.Resources.{Resources}
use Rattle.iso_model.specs.Rights.{is_readable, is_writable}
use Rattle.iso_model.specs.Scripts.{Script}
use Rattle.iso_model.specs.declared.outcome.Outcome.{Outcome}
use Rattle.iso_model.specs.declared.resource.Resource.{Resource}
use Rattle.iso_model.specs.declared.script.Mode.{Mode}
use Rattle.iso_model.specs.declared.script.Mode.TheVariants.{SameThread, Concurrent}
use Rattle.iso_plan.specs.Locks.{taken, conflict}
use Rattle.iso_plan.specs.Modes.{mode}
use Rattle.iso_plan.specs.NodeChains.{chain_classes, chain_test}
use Rattle.iso_plan.specs.Paths.{row_at, parent, path}
use Rattle.iso_plan.specs.KeptNodes.{plan_tree}
use Rattle.iso_plan.specs.Tree.{Kind, root, class_node, test_node, Row}
use Rattle.iso_settings.specs.declared.settings.Settings.{Settings}

-- the head of a node; that of the root, which is on no path, is a class without marks or blocks
abbrev pub head_of : Kind → Head
head_of root = of_class empty_head
head_of (class_node isolated head) = of_class head
head_of (test_node head) = of_test head

abbrev pub is_same_thread : Mode → Bool
is_same_thread SameThread = true
is_same_thread Concurrent = false

-- the suite of a tree under settings, where the resources start so
abbrev pub suite_of : List Row → Settings → Resources → Suite Head (List ℕ) Resource
suite_of tree settings start = record {
  nodes = length tree;
  parent = parent tree;
  path = path tree;
  head = λ n. head_of (row_at tree n).kind;
  is_same_thread = λ n. is_same_thread (mode tree settings n);
  takes = λ n k. is_readable (taken tree n k);
  takes_write = λ n k. is_writable (taken tree n k);
  conflict = conflict tree;
  start = start;
}

-- what is run: those nodes of scripts that some paths keep, or all, under settings, where the
-- resources start so
pub record Launch : Type 0 where
  pub written : List Script
  pub only : List (List ℕ)
  pub settings : Settings
  pub start : Resources

abbrev pub launch : List Script → List (List ℕ) → Settings → Resources → Launch
launch written only settings start =
    record { written = written; only = only; settings = settings; start = start }

-- the nodes of what is run, and its suite
abbrev pub nodes_of : Launch → List Row
nodes_of l = plan_tree l.written l.only

abbrev pub launched : Launch → Suite Head (List ℕ) Resource
launched l = suite_of (nodes_of l) l.settings l.start

-- in some run, on any number of workers and in any order of events that the locks allow, a node has
-- this outcome
abbrev pub MayEnd : Launch → ℕ → Outcome → Type 0
MayEnd l n r = Gives scripts (launched l) n r

-- a node is a test with this head; and a class with this head, in classes with these heads,
-- innermost first
pub record IsTestAt (l : Launch) (n : ℕ) (t : TestHead) (cs : List ClassHead) : Type 0 where
  pub test : chain_test (nodes_of l) n ≡ Some t
  pub classes : chain_classes (nodes_of l) n ≡ cs

pub record IsClassAt (l : Launch) (n : ℕ) (c : ClassHead) (cs : List ClassHead) : Type 0 where
  pub test : chain_test (nodes_of l) n ≡ None
  pub classes : chain_classes (nodes_of l) n ≡ c ∷ cs
