-- The table of hints, in parts.
use Rattle.std.specs.Prelude.{ℕ, List, ◌++◌, map}
use Rattle.iso_hints.specs.Rows.{Row}
use Rattle.iso_hints.specs.declared.pattern.Pattern.{Pattern}
use Rattle.iso_hints.specs.declared.table.beginnings.TheConstants as in_beginnings
use Rattle.iso_hints.specs.declared.table.annotations.TheConstants as in_annotations
use Rattle.iso_hints.specs.declared.table.operators.TheConstants as in_operators
use Rattle.iso_hints.specs.declared.table.methods.TheConstants as in_methods
use Rattle.iso_hints.specs.declared.table.symbols.TheConstants as in_symbols
use Rattle.iso_hints.specs.declared.table.parentheses.TheConstants as in_parentheses
use Rattle.iso_hints.specs.declared.table.ends.TheConstants as in_ends
use Rattle.iso_hints.specs.declared.table.modifiers.TheConstants as in_modifiers
use Rattle.iso_hints.specs.declared.table.members.TheConstants as in_members
use Rattle.iso_hints.specs.declared.table.heads.TheConstants as in_heads
use Rattle.iso_hints.specs.declared.table.control.TheConstants as in_control
use Rattle.iso_hints.specs.declared.table.statements.TheConstants as in_statements
use Rattle.iso_hints.specs.declared.table.calls.TheConstants as in_calls
use Rattle.iso_hints.specs.declared.table.forms.TheConstants as in_forms

-- the rows that the code lists
abbrev pub rows_of : List (Pattern × record { now : List ℕ } × record { now : List ℕ }
    × record { now : List ℕ }) → List Row
rows_of rows =
    map (λ row. record { pattern = row.0; word = row.1.now; at = row.2.now; hint = row.3.now }) rows

abbrev pub beginnings : List Row
beginnings = rows_of in_beginnings.ROWS.now

abbrev pub annotations : List Row
annotations = rows_of in_annotations.ROWS.now

abbrev pub operators : List Row
operators = rows_of in_operators.ROWS.now

abbrev pub methods : List Row
methods = rows_of in_methods.ROWS.now

abbrev pub symbols : List Row
symbols = rows_of in_symbols.ROWS.now

abbrev pub parentheses : List Row
parentheses = rows_of in_parentheses.ROWS.now

abbrev pub ends : List Row
ends = rows_of in_ends.ROWS.now

abbrev pub modifiers : List Row
modifiers = rows_of in_modifiers.ROWS.now

abbrev pub members : List Row
members = rows_of in_members.ROWS.now

abbrev pub heads : List Row
heads = rows_of in_heads.ROWS.now

abbrev pub control : List Row
control = rows_of in_control.ROWS.now

abbrev pub statements : List Row
statements = rows_of in_statements.ROWS.now

abbrev pub calls : List Row
calls = rows_of in_calls.ROWS.now

abbrev pub forms : List Row
forms = rows_of in_forms.ROWS.now

-- all of them but the forms, in the order in which they are tried
abbrev pub table : List Row
table =
    beginnings ++ annotations ++ operators ++ methods ++ symbols
    ++ parentheses ++ ends ++ modifiers ++ members
    ++ heads ++ control ++ statements ++ calls
