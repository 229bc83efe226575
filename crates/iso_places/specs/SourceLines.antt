-- Lines of a script.
--
-- line of a script: By its number from 1 on, without its line end, LF or CR LF; one that isn't
-- there is empty (`source_line`).
use Rattle.std.specs.Prelude.{ℕ, zero, suc, List, [], slice_index_or}
use Rattle.std.specs.Str.Lines.{lines}

-- a line of a script by its number from 1 on, without its line end, LF or CR LF; one that isn't
-- there is empty
abbrev pub source_line : List ℕ → ℕ → List ℕ
source_line bytes zero = []
source_line bytes (suc above) = slice_index_or (lines bytes) above []
