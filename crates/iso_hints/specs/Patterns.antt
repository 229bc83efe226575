-- Patterns of mistakes.
use Rattle.std.specs.Prelude.{ℕ, ◌-◌, List, Bool, false, ◌&&◌, ◌||◌, ◌==◌, not, Option, Some, None, codes, drop, length, map, nat_lt, slice_get}
use Rattle.std.specs.Char.{is_ascii_digit}
use Rattle.std.specs.List.{list_any, prefix_len}
use Rattle.iso_hints.specs.Bytes.{in_name, is_operator_byte}
use Rattle.iso_hints.specs.Places.{PlaceView, untrimmed}
use Rattle.iso_hints.specs.Tokens.{is_last, is_name, is_name_byte, is_next}
use Rattle.iso_hints.specs.declared.pattern.Pattern.{Pattern}
use Rattle.iso_hints.specs.declared.pattern.Pattern.TheVariants.{Token, Statement, Reserved, Numeral, Operator, Team, Start}
use Rattle.iso_hints.specs.declared.words.TheConstants.{LITERALS, OPERATORS, RESERVED}

-- one of these tokens is next
abbrev pub is_any_next : List (List ℕ) → List ℕ → Bool
is_any_next tokens bytes = list_any (λ token. is_next token bytes) tokens

-- digits are next that go on as a word
abbrev pub is_odd_numeral : List ℕ → Bool
is_odd_numeral bytes =
    nat_lt 0 (prefix_len is_ascii_digit bytes)
    && is_name_byte (slice_get bytes (prefix_len is_ascii_digit bytes))

-- an operand ends with this byte: a name, a number, a text or a parenthesis
abbrev pub ends_operand : Option ℕ → Bool
ends_operand None = false
ends_operand (Some b) = in_name b || ((b == 34) || (b == 41))

-- the last byte, if there is one
abbrev pub last_byte : List ℕ → Option ℕ
last_byte bytes = slice_get bytes (length bytes - 1)

-- an operator is next behind an operand, in a statement that has an operator already and takes more
-- than a literal
abbrev pub is_second_operator : PlaceView → Bool
is_second_operator place =
    ((is_any_next (map (λ t. t.now) OPERATORS.now) place.rest
    && ends_operand (last_byte place.before))
    && list_any is_operator_byte place.statement)
    && not (is_any_next (map (λ t. t.now) LITERALS.now) place.statement)

-- a head is that of the team, as far as its name: the word `team`, and a name
abbrev pub is_behind_team : List ℕ → Bool
is_behind_team head = is_next (codes "team") head && is_name (untrimmed (drop 4 head))

-- a word stands to the place as the pattern says
abbrev pub lies : PlaceView → Pattern → List ℕ → Bool
lies place Token word = is_last word place.before
lies place Statement word = is_next word place.statement
lies place Reserved word =
    is_last word place.before && is_any_next (map (λ t. t.now) RESERVED.now) place.rest
lies place Numeral word = is_odd_numeral place.rest
lies place Operator word = is_second_operator place
lies place Team word = is_behind_team place.statement
lies place Start word = length place.before == 0
