-- Near words.
--
-- near words: How far a word is from another, by the least edits (`distance`); which candidates are
-- near enough to be told (`is_near`), and these by their distance (`near_words`).
-- Standard: Damerau-Levenshtein, as optimal string alignment.
use Rattle.std.specs.Prelude.{ℕ, ◌*◌, ◌/◌, List, [], ◌∷◌, Bool, ◌&&◌, cond, filter, fold, length, max, nat_le, nat_lt}
use Rattle.std.specs.Str.{chars}
use Rattle.strsim.specs.Edits.{osa_table}

-- how many characters have to be put in, left out, changed, or swapped with the next one, so that a
-- text becomes another
abbrev pub distance : List ℕ → List ℕ → ℕ
distance word other = (osa_table (chars word) (chars other)).last_row (length (chars other))

-- whether the lengths let a candidate be near: it has at most 1,024 bytes, and neither is more than
-- twice as long as the other
abbrev pub may_be_near : List ℕ → List ℕ → Bool
may_be_near word candidate =
    (nat_le (length candidate) 1024 && nat_le (length candidate) (2 * length word))
    && nat_le (length word) (2 * length candidate)

-- whether a candidate is near enough to be told: at a distance of at most a third of the longer one
abbrev pub is_near : List ℕ → List ℕ → Bool
is_near word candidate =
    may_be_near word candidate && nat_le (distance word candidate)
    (max (length word) (length candidate) / 3)

-- a list by distance from a word, with one more behind those that are at most as far
abbrev pub put_by_distance : List ℕ → List (List ℕ) → List ℕ → List (List ℕ)
put_by_distance word [] new = new ∷ []
put_by_distance word (x ∷ xs) new =
    cond (nat_lt (distance word new) (distance word x)) (new ∷ x ∷ xs)
    (x ∷ put_by_distance word xs new)

-- of these candidates those that are near, the nearest first, equal ones in their order
abbrev pub near_words : List ℕ → List (List ℕ) → List (List ℕ)
near_words word candidates = fold (put_by_distance word) [] (filter (is_near word) candidates)
