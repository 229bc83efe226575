-- How a reader of XML reads a text back, from an attribute or from an element.
use Rattle.std.specs.Prelude.{ℕ, ◌+◌, ◌-◌, ◌*◌, List, [], ◌∷◌, ◌++◌, Option, None, Some, ◌==◌, cond, bytes_eq, codes}
use Rattle.std.specs.Option.{option_map}
use Rattle.iso_junit.specs.Escapes.{is_special}

-- the number that digits spell, after what stood before them
abbrev pub number_from : ℕ → List ℕ → ℕ
number_from before [] = before
number_from before (d ∷ ds) = number_from (before * 10 + (d - 48)) ds

-- the byte of a number, behind a hash
abbrev pub numbered_byte : List ℕ → Option ℕ
numbered_byte [] = None
numbered_byte (b ∷ digits) = cond (b == 35) (Some (number_from 0 digits)) None

-- the byte that a reference stands for, by what is between `&` and `;`
abbrev pub referred : List ℕ → Option ℕ
referred name =
    cond (bytes_eq name (codes "lt")) (Some 60)
    (cond (bytes_eq name (codes "gt")) (Some 62)
    (cond (bytes_eq name (codes "amp")) (Some 38)
    (cond (bytes_eq name (codes "quot")) (Some 34) (numbered_byte name))))

-- a byte more before a text
abbrev pub with_byte : Option ℕ → Option (List ℕ) → Option (List ℕ)
with_byte None text = None
with_byte (Some b) text = option_map (λ bs. b ∷ bs) text

-- The text that bytes are from there on; inside of a reference with what stood of it so far. Bytes
-- in which a special one stands as it is, or a reference stands for nothing or has no end, are
-- none.
abbrev pub read_from : Option (List ℕ) → List ℕ → Option (List ℕ)
read_from None [] = Some []
read_from (Some name) [] = None
read_from None (b ∷ bs) = cond (b == 38) (read_from (Some []) bs)
    (with_byte (cond (is_special b) None (Some b)) (read_from None bs))
read_from (Some name) (b ∷ bs) =
    cond (b == 59) (with_byte (referred name) (read_from None bs))
    (read_from (Some (name ++ b ∷ [])) bs)

-- the text that bytes are
abbrev pub unescaped : List ℕ → Option (List ℕ)
unescaped bytes = read_from None bytes
