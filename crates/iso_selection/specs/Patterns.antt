-- Patterns of paths: a star stands for any bytes, and each other byte for itself.
--
-- pattern: A star stands for any bytes, each other byte for itself, and the whole path has to match
-- (`is_match`): what stands after a star takes in some end of the path (`some_end`).
use Rattle.std.specs.Prelude.{ℕ, List, [], ◌∷◌, Bool, false, ◌||◌, ◌&&◌, ◌==◌, cond, length}

-- the byte that stands for any bytes
abbrev pub star : ℕ
star = 42

-- whether some end of a text passes: the whole text, or what is left of it where bytes are taken
-- from its front
abbrev pub some_end : (List ℕ → Bool) → List ℕ → Bool
some_end passes [] = passes []
some_end passes (c ∷ cs) = passes (c ∷ cs) || some_end passes cs

-- whether a text begins with a byte, and what is left of it passes
abbrev pub begins : ℕ → (List ℕ → Bool) → List ℕ → Bool
begins b passes [] = false
begins b passes (c ∷ cs) = (b == c) && passes cs

-- whether a pattern takes in a text, from its first byte to its last. What stands after a star
-- takes in some end of it.
abbrev pub is_match : (pattern text : List ℕ) → Bool
is_match [] text = length text == 0
is_match (b ∷ bs) text =
    cond (b == star) (some_end (is_match bs) text) (begins b (is_match bs) text)
