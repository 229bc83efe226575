-- The bytes of a line as they are shown, one by one.
use Rattle.std.proofs.Common.{◌≡◌, ℕ, ◌+◌, ◌<◌, List, [], ◌∷◌, ◌++◌, length, get_or, take, map, min, slice_set, sym, ap, ap₂, ◌∙◌}
use Rattle.std.proofs.lemmas.List.{map-append, take_more, take_more_set, take_min}
use Rattle.std.proofs.Math.Nat.{min_comm}
use Rattle.iso_summary.specs.ShownLines.{shown_byte, shown_bytes}

-- one byte more
pub shown-next : (shown line : List ℕ) (i b : ℕ) → i < length shown → i < length line → take i shown ≡ map shown_byte (take i line)
    → b ≡ shown_byte (get_or line i 0) → take (i + 1) (slice_set shown i b) ≡ map shown_byte (take (i + 1) line)
shown-next shown line i b room here so_far is =
    take_more_set shown i b room
    ∙ ap₂ (λ (xs : List ℕ) (x : ℕ). xs ++ x ∷ []) so_far is
    ∙ sym (map-append shown_byte (take i line) (get_or line i 0 ∷ []))
    ∙ ap (map shown_byte) (sym (take_more line i 0 here))

-- all that are shown
pub shown-all : (shown line : List ℕ) (n : ℕ) → n ≡ min (length line) 160 → take n shown ≡ map shown_byte (take n line)
    → take n shown ≡ shown_bytes line
shown-all shown line n e h = h ∙ ap (map shown_byte) (ap (λ (k : ℕ). take k line) (e ∙ min_comm (length line) 160) ∙ take_min 160 line)
