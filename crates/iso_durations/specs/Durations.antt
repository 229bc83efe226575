-- The text that lists the slowest tests and classes of a run.
--
-- text of the slowest: How many are listed, of how many tests and classes, and how long all bodies
-- took (`head_line`, `tally`), node by node (`with_node`); a line for each (`entry_line`,
-- `durations_text`, `text_of`), of its entry (`entry`), made of parts (`part_text`), with times in
-- seconds (`seconds`).
-- Also in: `Tallies`, `Entries`, `Lines`, `Parts`, `Seconds`.
use Rattle.std.specs.Prelude.{ℕ, List, [], ◌∷◌, ◌++◌, Option, codes, flat_map, length, map}
use Rattle.std.specs.Fmt.{decimal}
use Rattle.iso_plan.specs.Tree.{Row}
use Rattle.iso_durations.specs.Entries.{entry, entry_line}
use Rattle.iso_durations.specs.Lines.{counted, line}
use Rattle.iso_durations.specs.Listed.{listed}
use Rattle.iso_durations.specs.Seconds.{seconds}
use Rattle.iso_durations.specs.Tallies.{tally}
use Rattle.iso_durations.specs.Times.{measured, micros}
use Rattle.iso_durations.specs.declared.tally.Tally.{Tally}
use Rattle.iso_durations.specs.declared.durations.Timed.{Timed}

-- the first line: how many are listed, of how many that were measured, and how long the bodies of
-- all of these took
abbrev pub head_line : (count : ℕ) → (all : Tally) → List ℕ
head_line count all =
    line
    (codes "slowest "
    ∷ decimal count
    ∷ codes " of "
    ∷ counted all.tests (codes " test") (codes " tests")
    ∷ codes " and "
    ∷ counted all.classes (codes " class") (codes " classes")
    ∷ codes "; all bodies "
    ∷ seconds all.micros
    ∷ codes " s"
    ∷ [])

-- the text that lists these entries: the first line, and a line for each
abbrev pub text_of : List Row → List Timed → (all : Tally) → List ℕ
text_of tree entries all = head_line (length entries) all ++ flat_map (entry_line tree) entries

-- the text of the slowest
abbrev pub durations_text : List Row → (times : List (Option ℕ)) → (most : ℕ) → List ℕ
durations_text tree times most =
    text_of tree (map (entry (micros times)) (listed tree times most))
    (tally tree times (measured tree times))
