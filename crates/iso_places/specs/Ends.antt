-- The lines where bodies end.
--
-- line of what a report says: Of row R of a block the line R - 1 below that of its opening brace,
-- of a disabled node that of its name (`end_line`, `line_of_row`, `line_of_name`). A block of a
-- class is that of the node at its depth on the path, 1 for the top-level class (`node_of_block`,
-- `node_at_depth`); there is no line where it has no such block (`brace_line`, `lifecycle_line`).
use Rattle.std.specs.Prelude.{ℕ, zero, suc, ◌+◌, ◌-◌, List, Option, Some, None, reverse}
use Rattle.std.specs.List.{slice_get}
use Rattle.std.specs.Option.{option_and_then, option_map}
use Rattle.iso_model.specs.declared.place.BlockName.{BlockName}
use Rattle.iso_model.specs.declared.place.BlockName.TheVariants.{Test, Class}
use Rattle.iso_model.specs.declared.place.Lifecycle.{Lifecycle}
use Rattle.iso_model.specs.declared.place.Lifecycle.TheVariants.{BeforeAll, AfterAll, BeforeEach, AfterEach}
use Rattle.iso_model.specs.declared.place.Place.{Place}
use Rattle.iso_model.specs.declared.place.Place.TheVariants.{Row, Disabled}
use Rattle.iso_places.specs.Sites.{site_at}
use Rattle.iso_places.specs.declared.end.ScriptLine.{ScriptLine}
use Rattle.iso_places.specs.declared.site.Site.{Site}
use Rattle.iso_plan.specs.Paths.{path}
use Rattle.iso_plan.specs.Tree as T
use Rattle.iso_script.specs.Places.{line_at}
use Rattle.iso_script.specs.declared.place.BlockLine.{BlockLine}
use Rattle.iso_script.specs.declared.place.BlockLines.{BlockLines}
use Rattle.iso_script.specs.declared.place.BlockLines.TheVariants as B
use Rattle.iso_script.specs.declared.place.LifecycleLines.{LifecycleLines}

-- the node of a node's path that stands at a depth: at 1 the top-level class
abbrev pub node_at_depth : List T.Row → ℕ → ℕ → Option ℕ
node_at_depth tree n zero = None
node_at_depth tree n (suc above) = slice_get (reverse (path tree n)) above

-- the node of a node's path that has a block
abbrev pub node_of_block : List T.Row → ℕ → BlockName → Option ℕ
node_of_block tree n Test = Some n
node_of_block tree n (Class depth kind) = node_at_depth tree n depth

-- the line of the opening brace of a kind of lifecycle block
abbrev pub lifecycle_line : LifecycleLines → Lifecycle → BlockLine
lifecycle_line lines BeforeAll = lines.before_all
lifecycle_line lines AfterAll = lines.after_all
lifecycle_line lines BeforeEach = lines.before_each
lifecycle_line lines AfterEach = lines.after_each

-- the line of the opening brace of a block, if a node with these blocks has it
abbrev pub brace_line : BlockLines → BlockName → Option ℕ
brace_line (B.Test line) Test = Some line
brace_line (B.Test line) (Class depth kind) = None
brace_line (B.Class lines) Test = None
brace_line (B.Class lines) (Class depth kind) = line_at (lifecycle_line lines kind)

-- the line of a row of a block of the node that stands here: row 1 is on the line of the opening
-- brace
abbrev pub line_of_row : BlockName → ℕ → Site → Option ScriptLine
line_of_row block row site =
    option_map (λ brace. record { script = site.script; line = brace + row - 1 })
    (brace_line site.place.blocks block)

-- the line of a node's name
abbrev pub line_of_name : Site → ScriptLine
line_of_name site = record { script = site.script; line = site.place.name.line }

-- the line of what a report says of a node: that of the row of the block, or of the name of a
-- disabled node
abbrev pub end_line : List T.Row → List Site → ℕ → Place → Option ScriptLine
end_line tree sites n (Row block row) = option_and_then (line_of_row block row)
    (option_and_then (site_at sites) (node_of_block tree n block))
end_line tree sites n Disabled = option_map line_of_name (site_at sites n)
