-- The reader's view of a line: the event that it writes, by functions.
use Rattle.std.specs.Prelude.{ℕ, List, [], ◌∷◌, Bool, false, not, nat_eq, nat_le, Option, Some, None, if◌then◌else◌, length, take, drop, codes, option_map}
use Rattle.std.specs.List.{prefix_len}
use Rattle.std.specs.Str.{all_ascii_digits, bytes_eq}
use Rattle.std.specs.Str.Parse.{digits_value}
use Rattle.iso_schedule.specs.Lines.{Written, enter, step, leave, shut}

-- what a part of a line is read as, and the bytes after it
abbrev pub Front : Type 0 → Type 0
Front A = A × List ℕ

-- a space, and a byte of a word, which is any other
abbrev pub is_space : ℕ → Bool
is_space b = nat_eq b 32

abbrev pub in_word : ℕ → Bool
in_word b = not (is_space b)

-- what is tried with a value, where there is one
abbrev pub then_try : {A B : Type 0} → Option A → (A → Option B) → Option B
then_try None f = None
then_try (Some x) f = f x

-- the word at the front, and what follows it
abbrev pub word_at : List ℕ → Front (List ℕ)
word_at bs = (take (prefix_len in_word bs) bs, drop (prefix_len in_word bs) bs)

-- what follows one or more spaces
abbrev pub after_gap : List ℕ → Option (List ℕ)
after_gap [] = None
after_gap (b ∷ bs) = if is_space b then Some (drop (prefix_len is_space bs) bs) else None

-- one digit or more, and nothing else
abbrev pub is_numeral : List ℕ → Bool
is_numeral [] = false
is_numeral (b ∷ bs) = all_ascii_digits (b ∷ bs)

-- the numeral that a word is, if it is one
abbrev pub numeral_of : List ℕ → Option (List ℕ)
numeral_of word = if is_numeral word then Some word else None

-- the number of at most nine digits
abbrev pub number : List ℕ → Option ℕ
number digits = if nat_le (length digits) 9 then Some (digits_value 10 digits) else None

-- a word that is a numeral, and what follows it
abbrev pub numeral_front : Front (List ℕ) → Option (Front (List ℕ))
numeral_front f = option_map (λ digits. (digits, f.1)) (numeral_of f.0)

-- the numeral after a gap, and what follows it
abbrev pub numeral_at : List ℕ → Option (Front (List ℕ))
numeral_at bs = then_try (after_gap bs) (λ cs. numeral_front (word_at cs))

-- a value that nothing follows
abbrev pub at_end : {A : Type 0} → A → List ℕ → Option A
at_end x [] = Some x
at_end x (b ∷ bs) = None

-- the numeral after a gap, up to the end
abbrev pub last_numeral : List ℕ → Option (List ℕ)
last_numeral bs = then_try (numeral_at bs) (λ w. at_end w.0 w.1)

-- an event with one number after its word, or with two
abbrev pub with_one : (List ℕ → Written) → List ℕ → Option Written
with_one form bs = option_map form (last_numeral bs)

abbrev pub with_two : (List ℕ → List ℕ → Written) → List ℕ → Option Written
with_two form bs = then_try (numeral_at bs) (λ w. with_one (form w.0) w.1)

-- the event of a word and what follows it
abbrev pub after_verb : List ℕ → List ℕ → Option Written
after_verb verb bs =
    if bytes_eq verb (codes "enter") then with_two enter bs
    else if bytes_eq verb (codes "step") then with_one step bs
    else if bytes_eq verb (codes "leave") then with_one leave bs
    else if bytes_eq verb (codes "shut") then with_two shut bs
    else None

-- the event that a line writes
abbrev pub scanned : List ℕ → Option Written
scanned line = after_verb (word_at line).0 (word_at line).1
