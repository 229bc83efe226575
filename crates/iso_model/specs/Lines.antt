-- Lines that stand one after another in a list of bytes, each followed by a byte that no text has.
--
-- printed lines: Lines one after another in a list of bytes, each followed by a byte that no text
-- has (`lines_of`), so that the last has its end too (`IsEnded`); what lent lines stand for
-- (`lines_in`).
-- Also in: `LinesView`.
use Rattle.std.specs.Prelude.{◌≡◌, ℕ, List, [], ◌∷◌, cond, nat_eq}
use Rattle.std.specs.List.{onto_first}

-- the byte after each line: UTF-8 never has it
abbrev pub line_end : ℕ
line_end = 255

-- the lines of such bytes
abbrev pub lines_of : List ℕ → List (List ℕ)
lines_of [] = []
lines_of (b ∷ bs) = cond (nat_eq b line_end) ([] ∷ lines_of bs) (onto_first b (lines_of bs))

-- the last of some bytes, or another where there is none
abbrev pub last_byte : ℕ → List ℕ → ℕ
last_byte b [] = b
last_byte b (c ∷ cs) = last_byte c cs

-- the last line has its end, too
abbrev pub IsEnded : List ℕ → Type 0
IsEnded bs = last_byte line_end bs ≡ line_end
