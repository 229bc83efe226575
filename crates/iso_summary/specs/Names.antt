-- Names of files as they are shown.
--
-- names and lines as they are shown: A file's name whose characters that no reader sees are
-- escaped, with four digits or with eight (`shown_name`, `shown_char`, `escape`), and as a printed
-- plan has it, where control characters alone are (`planned_name`); the first 160 bytes of a line
-- in printable ASCII (`shown_source`, `shown_bytes`, `cut_end`).
-- Also in: `ShownLines`.
-- Standard: TOML 1.0.0, basic strings.
use Rattle.std.specs.Prelude.{ℕ, ◌+◌, ◌/◌, ◌%◌, List, [], ◌∷◌, Bool, ◌==◌, cond, nat_lt, codes, chars, flat_map}
use Rattle.std.specs.Char.{encode_utf8, is_ascii_control, is_control}
use Rattle.std.specs.List.{list_any}
use Rattle.iso_summary.specs.Unseen.{is_unseen}

-- a digit of a number in base 16
abbrev pub hex_digit : ℕ → ℕ
hex_digit d = cond (nat_lt d 10) (48 + d) (55 + d)

-- a character by its number of four digits, and of eight, as in a basic string of TOML
abbrev pub short_escape : ℕ → List ℕ
short_escape c =
    92 ∷ 117 ∷ hex_digit (c / 4096 % 16) ∷ hex_digit (c / 256 % 16) ∷ hex_digit (c / 16 % 16)
    ∷ hex_digit (c % 16) ∷ []

abbrev pub long_escape : ℕ → List ℕ
long_escape c =
    92
    ∷ 85
    ∷ hex_digit (c / 268435456 % 16)
    ∷ hex_digit (c / 16777216 % 16)
    ∷ hex_digit (c / 1048576 % 16)
    ∷ hex_digit (c / 65536 % 16)
    ∷ hex_digit (c / 4096 % 16)
    ∷ hex_digit (c / 256 % 16)
    ∷ hex_digit (c / 16 % 16)
    ∷ hex_digit (c % 16)
    ∷ []

abbrev pub escape : ℕ → List ℕ
escape c = cond (nat_lt c 65536) (short_escape c) (long_escape c)

-- a character as it is shown, by its escape if it isn't to be seen
abbrev pub shown_as : (hidden : Bool) → ℕ → List ℕ
shown_as hidden c =
    cond (c == 10) (codes "\\n")
    (cond (c == 13) (codes "\\r")
    (cond (c == 9) (codes "\\t")
    (cond hidden (escape c) (encode_utf8 c))))

-- a character that no reader sees by its escape, each other one as it is
abbrev pub shown_char : ℕ → List ℕ
shown_char c = shown_as (is_unseen c) c

-- a file's name as it is shown
abbrev pub shown_name : List ℕ → List ℕ
shown_name name = flat_map shown_char (chars name)

-- in a printed plan a control character by its escape, each other one as it is
abbrev pub planned_char : ℕ → List ℕ
planned_char c = shown_as (is_control c) c

-- a file's name as a printed plan has it
abbrev pub planned_name : List ℕ → List ℕ
planned_name name = flat_map planned_char (chars name)

-- whether a text has a control character of ASCII
abbrev pub has_ascii_control : List ℕ → Bool
has_ascii_control text = list_any is_ascii_control text
