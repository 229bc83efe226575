-- The code's cursor.
use Rattle.iso_script_lexer.specs.Positions.{Line}
use Rattle.iso_script_lexer.specs.declared.cursor.Cursor.{Cursor}

-- the line that a cursor is on
abbrev pub line_of : Cursor → Line
line_of c = (c.number, c.line.now)
