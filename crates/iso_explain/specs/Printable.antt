-- Texts that are safe to be shown.
use Rattle.std.specs.Prelude.{◌≡◌, ◌<◌, ◌^◌, ℕ, List, Bool, true, ◌||◌, ◌==◌, IfSome, filter, length, not}
use Rattle.std.specs.Int.{is_in_range}
use Rattle.std.specs.List.{list_all}
use Rattle.iso_script.specs.declared.explain.Explained.{Explained}
use Rattle.iso_script_lexer.specs.declared.token.Position.{Position}

-- printable ASCII or a line feed
abbrev pub is_safe : ℕ → Bool
is_safe b = (b == 10) || is_in_range 32 126 b

-- each byte of a text is printable ASCII or a line feed
abbrev pub IsSafe : List ℕ → Type 0
IsSafe text = list_all is_safe text ≡ true

-- a place has numbers of 32 bits
abbrev pub IsPlace : Position → Type 0
IsPlace at = (at.line < 2 ^ 32) × (at.column < 2 ^ 32)

-- the places of what is explained have such numbers, as they do in the code
pub record HasPlaces (told : Explained) : Type 0 where
  pub line : told.fault.line < 2 ^ 32
  pub brace : IfSome told.brace IsPlace
  pub first : IfSome told.first IsPlace

-- how many line feeds a text has: that of lines, each with its end, has as many as lines
abbrev pub line_feeds : List ℕ → ℕ
line_feeds text = length (filter (λ b. b == 10) text)

-- no byte of a text is a line feed
abbrev pub is_inner : ℕ → Bool
is_inner b = not (b == 10)

abbrev pub IsInner : List ℕ → Type 0
IsInner text = list_all is_inner text ≡ true
