-- The line that is told of a node.
--
-- line that is told of a node: That of what its verdict tells (`place_of`, `line_of_what_ended`),
-- else that of its name (`name_line`, `line_told`); with its script's name, or `stdin`, and its
-- text (`located`); and what mends the fault that ended it, where that is asked for (`hints_told`,
-- `told`, `located_told`).
-- Also in: `ToldPlaces`, `Explained`.
use Rattle.std.specs.Prelude.{ℕ, List, Option, None, Some, option_and_then, option_map, unwrap_or}
use Rattle.iso_model.specs.declared.outcome.Outcome.{Outcome}
use Rattle.iso_model.specs.declared.outcome.Verdict.{Verdict}
use Rattle.iso_model.specs.declared.outcome.Verdict.TheVariants.{Pass, Fail, Fault, Skipped, Blocked}
use Rattle.iso_model.specs.declared.place.Place.{Place}
use Rattle.iso_places.specs.Ends.{end_line, line_of_name}
use Rattle.iso_places.specs.Sites.{site_at}
use Rattle.iso_places.specs.declared.end.ScriptLine.{ScriptLine}
use Rattle.iso_places.specs.declared.site.Site.{Site}
use Rattle.iso_plan.specs.Tree.{Row}

-- the place that a verdict tells, of which a pass has none
abbrev pub place_of : Verdict → Option Place
place_of Pass = None
place_of (Fail note) = Some note.place
place_of (Fault kind note) = Some note.place
place_of (Skipped note) = Some note.place
place_of (Blocked note) = Some note.place

-- the line where what ended a node stands, if it is written
abbrev pub line_of_what_ended : List Row → List Site → (ℕ → Outcome) → ℕ → Option ScriptLine
line_of_what_ended tree sites outcome n =
    option_and_then (end_line tree sites n) (place_of (outcome n).verdict)

-- the line of a node's name; of a node without a site, line 0, which no script has
abbrev pub name_line : List Site → ℕ → ScriptLine
name_line sites n =
    unwrap_or (option_map line_of_name (site_at sites n)) (record { script = 0; line = 0 })

-- the line that is told of a node: where what ended it stands, else that of its name
abbrev pub line_told : List Row → List Site → (ℕ → Outcome) → ℕ → ScriptLine
line_told tree sites outcome n =
    unwrap_or (line_of_what_ended tree sites outcome n) (name_line sites n)
