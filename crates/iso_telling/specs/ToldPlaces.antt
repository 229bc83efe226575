-- What is told of nodes: lines of scripts, with their files, and what mends them.
use Rattle.std.specs.Prelude.{ℕ, List, [], Bool, codes, length, nat_lt, slice_index_or}
use Rattle.iso_model.specs.declared.outcome.Outcome.{Outcome}
use Rattle.iso_places.specs.SourceLines.{source_line}
use Rattle.iso_places.specs.declared.end.ScriptLine.{ScriptLine}
use Rattle.iso_places.specs.declared.site.Site.{Site}
use Rattle.iso_plan.specs.Tree.{Row}
use Rattle.iso_summary.specs.Views.{LocatedView}
use Rattle.iso_telling.specs.Explained.{hints_told}
use Rattle.iso_telling.specs.ToldLines.{line_told}
use Rattle.iso_telling.specs.declared.told.Told.{Told}

-- a line of scripts with these names and bytes: the name of its script, or `stdin` where none has a
-- name, and the line itself
abbrev pub located : (names texts : List (List ℕ)) → ScriptLine → LocatedView
located names texts at =
    record {
      file = slice_index_or names at.script (codes "stdin");
      named = nat_lt at.script (length names);
      line = at.line;
      source = source_line (slice_index_or texts at.script []) at.line;
      hints = [];
    }

-- what is told of a node: its line, and what mends it, a line each
pub record ToldView : Type 0 where
  pub line : ScriptLine
  pub hints : List (List ℕ)

abbrev pub told_of : Told → ToldView
told_of t = record { line = t.line; hints = t.hints.items }

-- what is told of a node by its outcome
abbrev pub told : (explain : Bool) → List Row → List Site → (ℕ → Outcome) → ℕ → ToldView
told explain tree sites outcome n =
    record { line = line_told tree sites outcome n; hints = hints_told explain tree outcome n }

-- the same with the name of the script and the line itself
abbrev pub located_told : (names texts : List (List ℕ)) → ToldView → LocatedView
located_told names texts t = record (located names texts t.line) { hints = t.hints }
