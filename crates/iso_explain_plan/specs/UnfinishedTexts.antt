-- Which node a schedule leaves.
use Rattle.std.specs.Prelude.{◌≡◌, ℕ, List, [], ◌∷◌, ◌++◌, Option, None, Some, codes}
use Rattle.iso_plan.specs.Tree.{Row}
use Rattle.iso_explain_plan.specs.Notes.{note}
use Rattle.iso_explain_plan.specs.Parts.{node_text}
use Rattle.iso_explain_plan.specs.declared.unfinished.Left.{Left}
use Rattle.iso_explain_plan.specs.declared.unfinished.Stage.{Stage}
use Rattle.iso_explain_plan.specs.declared.unfinished.Stage.TheVariants.{Untouched, Entered, Shut, Finished}

-- a schedule ends early
abbrev pub unfinished_note : List ℕ
unfinished_note = note (codes "the schedule ends before every class and test is finished" ∷ [])

-- what there is yet to come of a class
abbrev pub left_words : Stage → List ℕ
left_words Untouched = codes ": it isn't entered"
left_words Entered = codes ": it is entered, and not shut"
left_words Shut = codes ": it is shut, and its after_all isn't left"
left_words Finished = []

-- what a schedule leaves
abbrev pub left_note : List Row → Left → List ℕ
left_note tree left =
    note (codes "the first that isn't is " ∷ node_text tree left.node ∷ left_words left.stage ∷ [])

abbrev pub left_if : List Row → Option Left → List ℕ
left_if tree None = []
left_if tree (Some left) = left_note tree left

abbrev pub unfinished_notes : List Row → Option Left → List ℕ
unfinished_notes tree left = unfinished_note ++ left_if tree left

-- a text tells that a schedule ends early and what it leaves, or nothing where the bytes are no
-- schedule
pub data IsUnfinishedText (tree : List Row) : List ℕ → Type 0 where
  of_none : IsUnfinishedText tree []
  of_one : (left : Option Left) → IsUnfinishedText tree (unfinished_notes tree left)
