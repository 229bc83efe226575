-- What is told of bytes that are no TOML document.
use Rattle.std.specs.Prelude.{◌≡◌, ◌≤◌, ℕ, ◌-◌, List, [], ◌∷◌, ◌++◌, Bool, false, ◌&&◌, ◌||◌, if◌then◌else◌, bytes_eq, codes, drop, length, map, nat_eq, nat_le, slice_get, take, Option, None, Some}
use Rattle.std.specs.Char.{is_ascii_alphabetic}
use Rattle.std.specs.Fmt.{decimal}
use Rattle.std.specs.List.{starts_with}
use Rattle.iso_hints.specs.Pictures.{picture, shown_byte}
use Rattle.iso_summary.specs.Names.{shown_name}
use Rattle.iso_explain_settings.specs.Parts.{joined, one_piece}
use Rattle.iso_explain_settings.specs.Places.{column, line_at, line_number, narrowed}
use Rattle.iso_explain_settings.specs.Told.{hint_note}

-- the bytes begin as UTF-16 does
abbrev pub is_utf16 : List ℕ → Bool
is_utf16 bytes =
    starts_with nat_eq bytes (0xFF ∷ 0xFE ∷ []) || starts_with nat_eq bytes (0xFE ∷ 0xFF ∷ [])

-- what is wrong with how bytes are written, behind the file's name
abbrev pub encoding_fault : List ℕ → (message : List ℕ) → Option (List ℕ)
encoding_fault bytes message =
    if is_utf16 bytes then Some (codes " is UTF-16: save it as UTF-8")
    else if starts_with nat_eq bytes (0xEF ∷ 0xBB ∷ 0xBF ∷ []) then Some
    (codes " begins with a byte order mark: save it without one")
    else if bytes_eq message (codes "invalid UTF-8") then Some (codes " is not UTF-8")
    else None

-- a byte begins a word: a letter, be it of ASCII or not
abbrev pub begins_word : Option ℕ → Bool
begins_word (Some b) = is_ascii_alphabetic b || nat_le 0x80 b
begins_word None = false

-- what mends a word that stands where a value is wanted
abbrev pub quotes_hint : (rest message : List ℕ) → Option (List ℕ)
quotes_hint rest message =
    if starts_with nat_eq message (codes "invalid value") && begins_word (slice_get rest 0)
    then Some (codes "texts stand in double quotes, true and false without")
    else None

-- where the parser stops, and that line with carets below what it refuses, and with its message
abbrev pub head_text : (name bytes : List ℕ) → (start end : ℕ) → (message : List ℕ) → List ℕ
head_text name bytes start end message =
    let before = take start bytes in
    joined
    (codes " --> " ∷ shown_name name ∷ codes ":" ∷ decimal (line_number before) ∷ codes ":"
    ∷ decimal (column before) ∷ codes "\n"
    ∷ picture (line_number before) (line_at bytes start) (column before) (narrowed (end - start))
    (one_piece (map shown_byte message))
    ∷ [])

-- what is wrong with the bytes as a whole, or else what mends the place
abbrev pub last_of : (name : List ℕ) → (fault hint : Option (List ℕ)) → List ℕ
last_of name (Some fault) hint = joined (codes " = " ∷ shown_name name ∷ fault ∷ codes "\n" ∷ [])
last_of name None hint = hint_note hint

abbrev pub last_text : (name bytes : List ℕ) → (start : ℕ) → (message : List ℕ) → List ℕ
last_text name bytes start message =
    last_of name (encoding_fault bytes message) (quotes_hint (drop start bytes) message)

-- what is told of bytes of which the parser refuses those between two places
abbrev pub refusal_text : (name bytes : List ℕ) → (start end : ℕ) → (message : List ℕ) → List ℕ
refusal_text name bytes start end message =
    head_text name bytes start end message ++ last_text name bytes start message

-- the text tells of a place in the bytes, and of a message of the parser
abbrev pub IsRefusal : (name bytes told : List ℕ) → Type 0
IsRefusal name bytes told =
    (start : ℕ) × (end : ℕ) × (message : List ℕ) × (start ≤ end) × (end ≤ length bytes)
    × (told ≡ refusal_text name bytes start end message)
