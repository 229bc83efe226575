-- Positions in a text: a line, and a column that counts bytes, both from 1.
--
-- position of a token: Its line, and a column that is one more than the number of the line's bytes
-- before it; a line feed ends its line, and the next begins at column 1 (`position`, `line_after`).
use Rattle.std.specs.Prelude.{ℕ, ◌+◌, ◌-◌, List, length}
use Rattle.iso_script_lexer.specs.declared.token.Position.{Position}

-- a line: its number, and the bytes of the text from its first on
abbrev pub Line : Type 0
Line = ℕ × List ℕ

abbrev pub first_line : (text : List ℕ) → Line
first_line text = (1, text)

-- the next line, which begins with the rest of the text
abbrev pub line_after : Line → (rest : List ℕ) → Line
line_after line rest = (line.0 + 1, rest)

-- where on a line the rest of the text begins: its column is one more than the number of bytes
-- before it
abbrev pub position : Line → (rest : List ℕ) → Position
position line rest = record { line = line.0; column = (length line.1 - length rest) + 1 }
