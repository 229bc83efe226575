-- What contracts see of lent lines.
use Rattle.std.specs.Prelude.{ℕ, List}
use Rattle.iso_model.specs.Lines.{lines_of}
use Rattle.iso_model.specs.declared.lines.LineSlice.{LineSlice}

-- the lines that are lent
abbrev pub lines_in : LineSlice → List (List ℕ)
lines_in s = lines_of s.bytes.now
