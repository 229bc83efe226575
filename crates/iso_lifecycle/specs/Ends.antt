-- What an ended body came to, and what the definitions say of that.
use Rattle.std.specs.Prelude.{◌≡◌, ◌<◌, List, [], ◌∷◌, ◌++◌, length, Bool, true, false}
use Rattle.iso_model.specs.Alone.{after_all}
use Rattle.iso_model.specs.Chains.{ClassHead}
use Rattle.iso_model.specs.Openings.{Opening}
use Rattle.iso_model.specs.Statements.{is_well}
use Rattle.iso_model.specs.Verdicts.{verdict}
use Rattle.iso_model.specs.declared.outcome.Ending.{Ending}
use Rattle.iso_model.specs.declared.outcome.Ending.TheVariants.{Well}
use Rattle.iso_model.specs.declared.outcome.Outcome.{Outcome}
use Rattle.iso_model.specs.declared.outcome.Verdict.{Verdict}
use Rattle.iso_model.specs.declared.outcome.Verdict.TheVariants.{Pass, Fail, Fault, Skipped, Blocked}
use Rattle.iso_plan.specs.Paths.{row_at}
use Rattle.iso_plan.specs.RowView.{tree_of}
use Rattle.iso_lifecycle.specs.Subjects.{Subject, classes_of, enclosing, is_kind_of, opening_of, outcome_alone, own_frame, started}
use Rattle.iso_lifecycle.specs.declared.done.Closed as Closings
use Rattle.iso_lifecycle.specs.declared.done.Opened as Openings
use Rattle.iso_lifecycle.specs.declared.done.What.{What}
use Rattle.iso_lifecycle.specs.declared.done.What.TheVariants.{Opened, Tested, Closed}
use Rattle.iso_lifecycle.specs.declared.kind.BodyKind.{BodyKind}
use Rattle.iso_lifecycle.specs.declared.kind.BodyKind.TheVariants.{BeforeAll, Test, AfterAll}

-- the body that came to this
abbrev pub kind_of_what : What → BodyKind
kind_of_what (Opened o) = BeforeAll
kind_of_what (Tested o) = Test
kind_of_what (Closed c) = AfterAll

-- the outcome of a subject's node run alone
abbrev pub outcome_of : Subject → Outcome
outcome_of s = outcome_alone (tree_of s.plan) (started s.start) s.node

-- a `before_all` left its class's frame, which stands before those of the enclosing classes
pub record IsOpening (s : Subject) (o : Openings.Opened) : Type 0 where
  pub frame_is : o.frame ≡ s
  pub ending_is : o.ending ≡ (own_frame s).ending
  pub lines_are : o.lines ≡ (own_frame s).lines
  pub frames : (opening_of s).frames ≡ own_frame s ∷ (opening_of (enclosing s)).frames
  pub well : (opening_of s).well ≡ is_well o.ending

-- how the `after_all` of the innermost class of a chain ends, on what the opening of the chain
-- left, whatever its own `before_all` came to
abbrev pub closing_ending : List ClassHead → Opening → Ending
closing_ending [] o = Well
closing_ending (c ∷ cs) o = (after_all c cs o).here.ending

-- whether a test that came to this was done without a fail or fault: it passed or was skipped
abbrev pub is_unfailed : Verdict → Bool
is_unfailed Pass = true
is_unfailed (Fail note) = false
is_unfailed (Fault kind note) = false
is_unfailed (Skipped note) = true
is_unfailed (Blocked note) = false

-- whether a body of a subject's node ends well: a class's block without a fail, fault or false
-- assumption, a test without a fail or fault
abbrev pub ends_well : BodyKind → Subject → Bool
ends_well BeforeAll s = is_well (own_frame s).ending
ends_well Test s = is_unfailed (outcome_of s).verdict
ends_well AfterAll s = is_well (closing_ending (classes_of s) (opening_of s))

-- an `after_all` ended as it does in the class run alone, and the class's outcome is that of its
-- `before_all` and this `after_all`
pub record IsClosing (s : Subject) (c : Closings.Closed) : Type 0 where
  pub ending_is : c.ending ≡ closing_ending (classes_of s) (opening_of s)
  pub outcome : outcome_of s ≡ record {
    verdict = verdict ((own_frame s).ending ∷ c.ending ∷ []);
    output = (own_frame s).lines ++ c.lines;
  }

-- the body came to what the definitions say
abbrev pub IsEnd : Subject → What → Type 0
IsEnd s (Opened o) = IsOpening s o
IsEnd s (Tested o) = o ≡ outcome_of s
IsEnd s (Closed c) = IsClosing s c

-- What every end of a body is: that of a body which its node has, where the enclosing classes were
-- opened well.
pub record IsDone (s : Subject) (what : What) : Type 0 where
  pub inner : 0 < s.node
  pub within : s.node < length s.plan.rows
  pub fits : is_kind_of (kind_of_what what) (row_at (tree_of s.plan) s.node).kind ≡ true
  pub enclosed : (opening_of (enclosing s)).well ≡ true
  pub end : IsEnd s what
