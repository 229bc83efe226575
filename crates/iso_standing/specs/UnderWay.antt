-- The bodies of workers, and the states that they are of.
use Rattle.std.specs.Prelude.{◌≡◌, ℕ, ◌<◌, List, Option, Some, None, Bool, true, false, length, slice_index_or}
use Rattle.iso_suites.specs.SuiteStates.{RunNodes, RunState}
use Rattle.iso_isolation.specs.States.{body_in, is_closing}
use Rattle.iso_lifecycle.specs.BodyViews.{kind_of_body, stage_of_body, subject_of}
use Rattle.iso_lifecycle.specs.Subjects.{is_kind_of, subject}
use Rattle.iso_lifecycle.specs.declared.body.Body.{Body}
use Rattle.iso_lifecycle.specs.declared.kind.BodyKind.{BodyKind}
use Rattle.iso_lifecycle.specs.declared.kind.BodyKind.TheVariants.{BeforeAll, Test, AfterAll}
use Rattle.iso_plan.specs.Paths.{row_at}
use Rattle.iso_plan.specs.Planned.{Planned}
use Rattle.iso_plan.specs.RowView.{tree_of}
use Rattle.iso_settings.specs.Worlds.{Start}

-- the body of a worker, if it has one
abbrev pub body_at : List (Option Body) → ℕ → Option Body
body_at bodies w = slice_index_or bodies w None

abbrev pub is_after_all : BodyKind → Bool
is_after_all BeforeAll = false
is_after_all Test = false
is_after_all AfterAll = true

-- a body is the one under way at a node
pub record IsUnderWay (plan : Planned) (world : Start) (n : ℕ) (b : Body)
    (s : RunNodes) : Type 0 where
  pub subject : subject_of b ≡ subject plan world n
  pub kind : is_after_all (kind_of_body b) ≡ is_closing (s.status n)
  pub fits : is_kind_of (kind_of_body b) (row_at (tree_of plan) n).kind ≡ true
  pub stage : body_in (s.status n) ≡ Some (stage_of_body b)

-- a worker has the body that is under way at its node
pub record HasUnderWay (plan : Planned) (world : Start) (n : ℕ) (o : Option Body)
    (s : RunNodes) : Type 0 where
  pub body : Body
  pub there : o ≡ Some body
  pub is : IsUnderWay plan world n body s

-- each worker that has a node has the body under way there, no other worker has a body, and no two
-- have one node
pub record AreBodiesOf (plan : Planned) (world : Start) (bodies : List (Option Body))
    (s : RunState) : Type 0 where
  pub free : (w : ℕ) → w < length bodies → s.busy w ≡ None → body_at bodies w ≡ None
  pub at : (w n : ℕ) → w < length bodies → s.busy w ≡ Some n
      → HasUnderWay plan world n (body_at bodies w) s.nodes
  pub apart : (w u n : ℕ) → w < length bodies → u < length bodies → s.busy w ≡ Some n
      → s.busy u ≡ Some n → w ≡ u
