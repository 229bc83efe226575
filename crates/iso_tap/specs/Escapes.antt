-- Texts as they stand in a title, in a reason and in quotes.
--
-- escaped and quoted texts: A text as it stands in a title or a reason, and in quotes (`escaped`).
-- Standard: Test Anything Protocol, version 14; YAML 1.2.
use Rattle.std.specs.Prelude.{ℕ, suc, List, [], ◌∷◌, ◌++◌, cond, ◌||◌, nat_eq, codes}

-- a text with a backslash before each backslash and before each of one other byte
abbrev pub with_escapes : ℕ → List ℕ → List ℕ
with_escapes other [] = []
with_escapes other (b ∷ bs) = cond (nat_eq b 92 || nat_eq b other) (92 ∷ b ∷ with_escapes other bs)
    (b ∷ with_escapes other bs)

-- a text as it stands in a title or a reason: a backslash and a hash are escaped (TAP 14, escaping)
abbrev pub escaped : List ℕ → List ℕ
escaped = with_escapes 35

-- a text as it stands between quotes: a backslash and a quote are escaped (YAML, double-quoted
-- style)
abbrev pub quoted_bytes : List ℕ → List ℕ
quoted_bytes = with_escapes 34

-- a text in quotes
abbrev pub quoted : List ℕ → List ℕ
quoted t = codes "\"" ++ quoted_bytes t ++ codes "\""

-- how many bytes stand before the first one that is escaped
abbrev pub plain_len : ℕ → List ℕ → ℕ
plain_len other [] = 0
plain_len other (b ∷ bs) = cond (nat_eq b 92 || nat_eq b other) 0 (suc (plain_len other bs))
