-- What contracts see of a lent block.
--
-- block without statements: Whether a lent block has no statement (`is_empty`).
use Rattle.std.specs.Prelude.{Bool, true, false}
use Rattle.iso_model.specs.Syntax.{Acts, no_acts, act}

-- whether a block has no statement
abbrev pub is_empty : Acts → Bool
is_empty no_acts = true
is_empty (act row a acts) = false
