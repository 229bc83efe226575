-- Lines of scripts as they are shown.
use Rattle.std.specs.Prelude.{ℕ, List, [], Bool, ◌++◌, ◌==◌, cond, codes, length, map, nat_lt, take}
use Rattle.std.specs.Int.{is_in_range}

-- whether a byte is printable ASCII
abbrev pub is_printable : ℕ → Bool
is_printable b = is_in_range 32 126 b

-- a byte of a line as it is shown: a tab as a space, each other one that isn't printable ASCII as
-- `?`
abbrev pub shown_byte : ℕ → ℕ
shown_byte b = cond (b == 9) 32 (cond (is_printable b) b 63)

-- the bytes of a line that are shown
abbrev pub shown_bytes : List ℕ → List ℕ
shown_bytes line = map shown_byte (take 160 line)

-- what stands in place of those that aren't
abbrev pub cut_end : List ℕ → List ℕ
cut_end line = cond (nat_lt 160 (length line)) (codes "..") []

-- a line as it is shown
abbrev pub shown_source : List ℕ → List ℕ
shown_source line = shown_bytes line ++ cut_end line
