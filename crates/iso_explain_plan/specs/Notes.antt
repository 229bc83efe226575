-- Notes: lines below a fault's.
use Rattle.std.specs.Prelude.{ℕ, List, ◌++◌, codes}
use Rattle.iso_summary.specs.Lines.{line}

-- a note: these texts one after another, on a line of its own
abbrev pub note : List (List ℕ) → List ℕ
note texts = codes " = " ++ line texts
