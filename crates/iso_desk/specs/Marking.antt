-- Sets of numbers, as marks in words of 64 bits.
--
-- what is on offer: A set of keys (`has`, `room`); somebody stands in a line and its key doesn't
-- exclude them (`IsOnOffer`, `excludes`); the lowest such key of a party (`IsLowestOffer`), and
-- that there is none (`NothingOffered`).
-- Also in: `Offers`.
use Rattle.std.specs.Prelude.{ℕ, ◌*◌, ◌/◌, ◌%◌, ◌==◌, Bool, ◌&&◌, ◌||◌, not, length, slice_index}
use Rattle.std.specs.Int.{bit_at}
use Rattle.iso_desk.specs.declared.marks.Marks.{Marks}

-- whether a bit of a word is set
unfoldable pub bit : ℕ → ℕ → Bool
bit w t = bit_at w t == 1

-- a set has room for the numbers below this one
abbrev pub room : Marks → ℕ
room s = 64 * length s.words.items

-- a word of 64 marks
abbrev pub word_of : Marks → ℕ → ℕ
word_of s at = slice_index s.words.items at

-- whether a number is in a set
abbrev pub has : Marks → ℕ → Bool
has s k = bit (word_of s (k / 64)) (k % 64)

-- whether a bit is set in one of two words, and not in the one that masks it
abbrev pub offers : ℕ → ℕ → ℕ → ℕ → ℕ → Bool
offers reading written writing held t =
    (bit reading t && not (bit written t)) || (bit writing t && not (bit held t))
