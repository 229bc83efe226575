-- Where two nodes, each of a plan on starting values, agree.
--
-- agreement of nodes: Two nodes, each of a plan on starting values, agree where their class chains
-- are equal and the keys that these are marked with start with equal values (`NodesAgree`); the
-- same of what they have themselves (`OwnAgree`); that a node has an outcome in some run
-- (`MayComeTo`).
use Rattle.std.specs.Prelude.{◌≡◌, ℕ, Option}
use Rattle.iso_isolation.specs.Isolation.{Gives}
use Rattle.iso_lifecycle.specs.Subjects.{Subject, classes_of, rights_of_subject, started}
use Rattle.iso_model.specs.ChainAgreement.{EqualAt}
use Rattle.iso_model.specs.Chains.{TestHead}
use Rattle.iso_model.specs.Rights.{rights_of}
use Rattle.iso_model.specs.declared.outcome.Outcome.{Outcome}
use Rattle.iso_plan.specs.NodeChains.{chain_test}
use Rattle.iso_plan.specs.Planned.{Planned}
use Rattle.iso_plan.specs.RowView.{tree_of}
use Rattle.iso_settings.specs.Worlds.{Start}
use Rattle.iso_suites.specs.ScriptLanguage.{Head, marks_on, scripts}
use Rattle.iso_suites.specs.SuiteStates.{suite_at}

-- the head of a subject, if it is a test
abbrev pub test_of : Subject → Option TestHead
test_of s = chain_test (tree_of s.plan) s.node

-- Two nodes agree: their class chains are equal, and the keys that these are marked with start with
-- equal values.
pub record NodesAgree (s t : Subject) : Type 0 where
  pub classes : classes_of s ≡ classes_of t
  pub test : test_of s ≡ test_of t
  pub starts : EqualAt (rights_of_subject s) (started s.start) (started t.start)

-- the same of what two nodes have themselves: equal heads, and equal starts at the keys that these
-- are marked with
pub record OwnAgree (before after : Start) (h g : Head) : Type 0 where
  pub head : h ≡ g
  pub starts : EqualAt (rights_of (marks_on h)) (started before) (started after)

-- in some run of a plan on starting values, on any number of workers and in any order of events
-- that the locks allow, a node has this outcome
abbrev pub MayComeTo : Planned → Start → ℕ → Outcome → Type 0
MayComeTo plan start n r = Gives scripts (suite_at plan start) n r
