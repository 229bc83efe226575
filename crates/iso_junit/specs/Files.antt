-- Names of files.
use Rattle.std.specs.Prelude.{ℕ, List, Bool, ◌&&◌, ◌||◌, ◌==◌, cond, chars, codes, flat_map, not}
use Rattle.std.specs.Int.{is_in_range}
use Rattle.iso_summary.specs.Names.{shown_char}

-- a character of a name as it is told: as in a fault's line, and the two that are none of XML's in
-- the same way
abbrev pub file_char : ℕ → List ℕ
file_char c =
    cond (c == 65534) (codes "\\uFFFE") (cond (c == 65535) (codes "\\uFFFF") (shown_char c))

-- a file's name as it is told
abbrev pub file_name : List ℕ → List ℕ
file_name name = flat_map file_char (chars name)

-- whether a text of XML may have a character (XML 1.0, section 2.2, production 2); surrogates are
-- no characters here
abbrev pub is_allowed : ℕ → Bool
is_allowed c = (c == 9 || (c == 10 || (c == 13 || is_in_range 32 1114111 c)))
    && not (is_in_range 65534 65535 c)
