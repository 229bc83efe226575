-- How GitHub reads the texts of a command back.
use Rattle.std.specs.Prelude.{ℕ, List, [], ◌∷◌, Option, None, Some, Bool, ◌&&◌, ◌||◌, ◌==◌, cond}
use Rattle.std.specs.Option.{option_map}

-- whether a byte ends a message: it ends a line; and whether it ends a property
abbrev pub ends_message : ℕ → Bool
ends_message b = b == 10 || b == 13

abbrev pub ends_property : ℕ → Bool
ends_property b = b == 58 || (b == 44 || ends_message b)

-- the byte that two digits behind a percent sign stand for
abbrev pub byte_of : ℕ → ℕ → Option ℕ
byte_of a b =
    cond (a == 50 && b == 53) (Some 37)
    (cond (a == 48 && b == 68) (Some 13)
    (cond (a == 48 && b == 65) (Some 10)
    (cond (a == 51 && b == 65) (Some 58)
    (cond (a == 50 && b == 67) (Some 44) None))))

-- where the next byte stands
pub data Reading : Type 0 where
  in_text : Reading
  behind_percent : Reading
  behind_digit : ℕ → Reading

-- a byte more before a text
abbrev pub with_byte : Option ℕ → Option (List ℕ) → Option (List ℕ)
with_byte None text = None
with_byte (Some b) text = option_map (λ bs. b ∷ bs) text

-- The text that bytes are from there on, where these bytes would end it. With one of them in it, or
-- a percent sign without two digits that stand for a byte, it is none.
abbrev pub read_from : (ends : ℕ → Bool) → Reading → List ℕ → Option (List ℕ)
read_from ends in_text [] = Some []
read_from ends behind_percent [] = None
read_from ends (behind_digit d) [] = None
read_from ends in_text (b ∷ bs) =
    cond (b == 37) (read_from ends behind_percent bs)
    (with_byte (cond (ends b) None (Some b)) (read_from ends in_text bs))
read_from ends behind_percent (b ∷ bs) = read_from ends (behind_digit b) bs
read_from ends (behind_digit d) (b ∷ bs) = with_byte (byte_of d b) (read_from ends in_text bs)

-- the text of a message, and of a property
abbrev pub message_of : List ℕ → Option (List ℕ)
message_of bytes = read_from ends_message in_text bytes

abbrev pub property_of : List ℕ → Option (List ℕ)
property_of bytes = read_from ends_property in_text bytes
