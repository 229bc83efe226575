-- The summary of a run.
--
-- summary: What failed, as a text for people: of each node that is told its path, place, message,
-- the line of the script, what mends it (`hint_lines`), how many tests it blocks and the command
-- that runs it again (`failure_text`, `skipped_text`, `entry_text`), and a last line with the
-- counts (`counts_line`, `summary_text`).
-- Also in: `Entries`, `Lines`, `Parts`, `Views`.
use Rattle.std.specs.Prelude.{ℕ, ◌<◌, List, [], ◌∷◌, ◌++◌, codes, length, zip}
use Rattle.std.specs.Fmt.{decimal}
use Rattle.std.specs.List.{flat_map}
use Rattle.iso_failures.specs.Blocking.{blocked_by}
use Rattle.iso_failures.specs.Counting.{counts}
use Rattle.iso_failures.specs.declared.counts.Counts.{Counts}
use Rattle.iso_model.specs.declared.outcome.Outcome.{Outcome}
use Rattle.iso_model.specs.declared.outcome.Verdict.{Verdict}
use Rattle.iso_model.specs.declared.outcome.Verdict.TheVariants.{Pass, Fail, Fault, Skipped, Blocked}
use Rattle.iso_plan.specs.PathTexts.{path_text}
use Rattle.iso_plan.specs.Planned.{Planned}
use Rattle.iso_plan.specs.Tree.{Row}
use Rattle.iso_summary.specs.Entries.{failure_text, skipped_text}
use Rattle.iso_summary.specs.Lines.{counted, failed_classes, line}
use Rattle.iso_summary.specs.Views.{AgainView, LocatedView}

-- a number is that of a node of a plan, other than the root
pub record IsNode (plan : Planned) (n : ℕ) : Type 0 where
  pub above : 0 < n
  pub within : n < length plan.rows

-- what is told of a node with a verdict, of which nothing is told where it passed
abbrev pub told : AgainView → LocatedView → (path : List ℕ) → (blocked : ℕ) → Verdict → List ℕ
told again at path blocked Pass = []
told again at path blocked (Fail note) = failure_text again at path note.message blocked
told again at path blocked (Fault kind note) = failure_text again at path note.message blocked
told again at path blocked (Skipped note) = skipped_text at path note.message
told again at path blocked (Blocked note) = failure_text again at path note.message blocked

-- an entry: what is told of a node by its verdict
abbrev pub entry_text : List Row → (ℕ → Outcome) → AgainView → ℕ → LocatedView → List ℕ
entry_text tree outcome again n at =
    told again at (path_text tree n) (blocked_by tree outcome n) (outcome n).verdict

-- the entries of nodes, each with its place
abbrev pub entries_text : List Row → (ℕ → Outcome) → AgainView → List ℕ → List LocatedView → List ℕ
entries_text tree outcome again nodes places =
    flat_map (λ e. entry_text tree outcome again e.0 e.1) (zip nodes places)

-- the last line: how many tests and classes there are, and what they came to
abbrev pub counts_line : Counts → List ℕ
counts_line c =
    line
    (counted c.tests (codes " test") (codes " tests")
    ∷ codes " in "
    ∷ counted c.classes (codes " class") (codes " classes")
    ∷ codes ": "
    ∷ decimal c.ok
    ∷ codes " ok, "
    ∷ decimal c.skipped
    ∷ codes " skipped, "
    ∷ decimal c.not_ok
    ∷ codes " not ok, "
    ∷ decimal c.blocked
    ∷ codes " blocked"
    ∷ failed_classes c.classes_not_ok
    ∷ [])

-- the summary: the entries, and the last line
abbrev pub summary_text : List Row → (ℕ → Outcome) → AgainView → (nodes : List ℕ)
    → List LocatedView → List ℕ
summary_text tree outcome again nodes places =
    entries_text tree outcome again nodes places ++ counts_line (counts tree outcome)
