-- What means something to a reader of HTML.
use Rattle.std.specs.Prelude.{ℕ, Bool, ◌||◌, ◌==◌, not}

-- whether a byte begins or ends neither a tag nor a quoted attribute
abbrev pub is_no_markup : ℕ → Bool
is_no_markup b = not (b == 60 || (b == 62 || b == 34))
