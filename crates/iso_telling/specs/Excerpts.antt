-- The lines of scripts that are shown of the nodes that failed.
use Rattle.std.specs.Prelude.{ℕ, zero, suc, ◌+◌, ◌-◌, ◌==◌, List, [], Option, None, Some, cond, length, map, min, slice_index_or}
use Rattle.std.specs.List.{range_with_len}
use Rattle.iso_failures.specs.Failures.{is_failure}
use Rattle.iso_html.specs.Quotes.{LineView}
use Rattle.iso_model.specs.declared.outcome.Outcome.{Outcome}
use Rattle.iso_places.specs.LineStarts.{line_starts}
use Rattle.iso_places.specs.SourceLines.{source_line}
use Rattle.iso_places.specs.declared.end.ScriptLine.{ScriptLine}
use Rattle.iso_places.specs.declared.site.Site.{Site}
use Rattle.iso_plan.specs.Tree.{Row}
use Rattle.iso_telling.specs.ToldLines.{line_told}

-- a line of a text, with its number
abbrev pub numbered_line : (text : List ℕ) → ℕ → LineView
numbered_line text k = record { number = k; text = source_line text k }

-- how many lines a text has, but for an empty one behind its last line feed
abbrev pub line_count : (text : List ℕ) → ℕ
line_count text = length (line_starts text) - cond
    (length (source_line text (length (line_starts text))) == 0) 1 0

-- how many lines are shown before a line and after it: two each, as far as the text has these
abbrev pub lines_before : ℕ → ℕ
lines_before line = min (line - 1) 2

abbrev pub lines_after : (text : List ℕ) → ℕ → ℕ
lines_after text line = min (line_count text - line) 2

-- a line of a text, with those that are shown before it and after it
abbrev pub around : (text : List ℕ) → ℕ → List LineView
around text line = map (numbered_line text)
    (range_with_len (line - lines_before line) (lines_before line + 1 + lines_after text line))

-- the line that is told of a node, where it failed
abbrev pub failed_line : List Row → List Site → (ℕ → Outcome) → ℕ → Option ScriptLine
failed_line tree sites outcome zero = None
failed_line tree sites outcome (suc n) =
    cond (is_failure outcome (suc n)) (Some (line_told tree sites outcome (suc n))) None

-- what is shown of a line of one of some scripts, if there is such a line
abbrev pub excerpt : (texts : List (List ℕ)) → Option ScriptLine → List LineView
excerpt texts None = []
excerpt texts (Some at) = around (slice_index_or texts at.script []) at.line

-- what is shown of each node
abbrev pub excerpts : (texts : List (List ℕ)) → List Row → List Site → (ℕ → Outcome)
    → List (List LineView)
excerpts texts tree sites outcome =
    map (λ n. excerpt texts (failed_line tree sites outcome n)) (range_with_len 0 (length tree))
