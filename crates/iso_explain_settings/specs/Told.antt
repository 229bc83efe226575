-- What is told of what stands at a key.
use Rattle.std.specs.Prelude.{◌≡◌, ℕ, List, [], ◌∷◌, ◌++◌, Bool, false, cond, codes, length, Option, None, Some, unwrap_or}
use Rattle.std.specs.Fmt.{decimal}
use Rattle.toml.specs.Data.{Data, no_members, table, as_str}
use Rattle.toml.specs.Text.{IsValueText}
use Rattle.iso_tap.specs.Sinks.{Account, Wrote}
use Rattle.iso_explain_settings.specs.Parts.{in_front, joined, shown_text}
use Rattle.iso_explain_settings.specs.Values.{hint, is_long_text, kind_text, near, subject}
use Rattle.iso_explain_settings.specs.Wanted.{before_key, takes, words}
use Rattle.iso_explain_settings.specs.declared.note.Note.{Note}
use Rattle.iso_explain_settings.specs.declared.value.Kind.{Kind}
use Rattle.iso_explain_settings.specs.declared.wanted.Wanted.{Wanted}

-- what a note of the code is
abbrev pub note_text : Note → List ℕ
note_text note = joined (note.lead.now ∷ note.text.now ∷ note.end.now ∷ [])

-- a line of its own for a hint, if there is one
abbrev pub hint_note : Option (List ℕ) → List ℕ
hint_note None = []
hint_note (Some text) = joined (codes " = " ∷ text ∷ codes "\n" ∷ [])

-- what mends a value: the word that was meant, or else a hint
abbrev pub mending_note : (meant hint : Option (List ℕ)) → List ℕ
mending_note (Some word) hint = joined (codes " = did you mean `" ∷ word ∷ codes "`?\n" ∷ [])
mending_note None hint = hint_note hint

-- what a key takes, as a line
abbrev pub takes_line : Wanted → (key : List ℕ) → List (List ℕ)
takes_line wanted key = codes " = " ∷ before_key wanted ∷ shown_text 160 key ∷ takes wanted
    ∷ codes "\n" ∷ []

-- a value, which is written as `text`, and its kind
abbrev pub found_line : Data → (text : List ℕ) → List ℕ
found_line value text = joined (codes " = found: " ∷ shown_text 60 text ∷ codes ", "
    ∷ kind_text value ∷ codes "\n" ∷ [])

-- a text that is too long, or has a key that is, and how long it is
abbrev pub long_line : Data → (text : List ℕ) → List ℕ
long_line value text = joined
    (codes " = found: " ∷ shown_text 60 text ∷ codes ", a text of "
    ∷ decimal (length (unwrap_or (as_str value) [])) ∷ codes " bytes\n" ∷ [])

abbrev pub found_text : (is_long : Bool) → Data → (text : List ℕ) → List ℕ
found_text is_long value text = cond is_long (long_line value text) (found_line value text)

-- what the key takes, and what mends the value
abbrev pub advice : Kind → Wanted → (key : List ℕ) → Data → List ℕ
advice kind wanted key value =
    in_front (takes_line wanted key) (mending_note (near (subject wanted key value) (words wanted))
    (hint kind wanted key value))

-- what the key takes, and how long it is itself
abbrev pub long_advice : Wanted → (key : List ℕ) → List ℕ
long_advice wanted key = joined
    (takes_line wanted key
    ++ (codes " = the key has " ∷ decimal (length key)
    ∷ codes " bytes: behind files. or properties. at most 4096\n" ∷ []))

abbrev pub advice_text : (is_long : Bool) → Kind → Wanted → (key : List ℕ) → Data → List ℕ
advice_text is_long kind wanted key value =
    cond is_long (long_advice wanted key) (advice kind wanted key value)

-- what is told of a value, which is written as `text`
abbrev pub value_text : Kind → Wanted → (key : List ℕ) → Data → (text : List ℕ) → List ℕ
value_text kind wanted key value text =
    found_text (is_long_text kind wanted) value text
    ++ advice_text (is_long_text kind wanted) kind wanted key value

-- the value and its kind, as TOML writes the value
abbrev pub IsFoundText : (is_long : Bool) → Data → (told : List ℕ) → Type 0
IsFoundText is_long value told = (text : List ℕ) × IsValueText false value text
    × (told ≡ found_text is_long value text)

-- what is told where a table stands, which is no value
abbrev pub table_text : Wanted → (key : List ℕ) → List ℕ
table_text wanted key =
    in_front (codes " = found: a table\n" ∷ takes_line wanted key)
    (mending_note (near (subject wanted key (table no_members)) (words wanted)) None)

-- what is told where a key stands twice
abbrev pub twice_text : (key : List ℕ) → List ℕ
twice_text key = joined
    (codes " = " ∷ shown_text 160 key ∷ codes " stands twice: keep one\n"
    ∷ codes " = a table, dots and quotes may spell the same key: [a] with b = 1, a.b = 1, and \"a.b\" = 1\n" ∷ [])

-- what is told of the values at a key
abbrev pub IsTold : Kind → Wanted → (key : List ℕ) → List Data → (told : List ℕ) → Type 0
IsTold kind wanted key [] told = told ≡ table_text wanted key
IsTold kind wanted key (value ∷ []) told = (text : List ℕ) × IsValueText false value text
    × (told ≡ value_text kind wanted key value text)
IsTold kind wanted key (first ∷ second ∷ more) told = told ≡ twice_text key

-- a text of this property was added
abbrev pub Adds : (old new : Account) → (List ℕ → Type 0) → Type 0
Adds old new P = (text : List ℕ) × P text × Wrote old new text
