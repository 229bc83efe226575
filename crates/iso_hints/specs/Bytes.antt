-- Kinds of bytes.
use Rattle.std.specs.Prelude.{ℕ, Bool, ◌||◌, ◌==◌}
use Rattle.std.specs.Char.{is_ascii_alphanumeric}

-- a letter, a digit or an underscore
abbrev pub in_name : ℕ → Bool
in_name b = is_ascii_alphanumeric b || (b == 95)

-- a space, a tab, a carriage return or a line feed, which may stand between tokens
abbrev pub is_blank : ℕ → Bool
is_blank b = ((b == 32) || (b == 9)) || ((b == 13) || (b == 10))

-- `;`, `{` or `}`, with which a statement or a head ends
abbrev pub ends_statement : ℕ → Bool
ends_statement b = ((b == 59) || (b == 123)) || (b == 125)

-- a byte of an operator, or of `=`
abbrev pub is_operator_byte : ℕ → Bool
is_operator_byte b = (((b == 43) || (b == 45)) || ((b == 42) || (b == 61)))
    || ((b == 60) || (b == 33))
