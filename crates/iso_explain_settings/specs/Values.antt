-- What is told of values.
use Rattle.std.specs.Prelude.{ℕ, List, Bool, true, false, cond, codes, Option, None, Some}
use Rattle.toml.specs.Data.{Data, string, integer, float, boolean, datetime, array, table}
use Rattle.iso_settings.specs.Worlds.{is_printable}
use Rattle.iso_explain_settings.specs.Wanted.{nearest_of}
use Rattle.iso_explain_settings.specs.declared.value.Kind.{Kind}
use Rattle.iso_explain_settings.specs.declared.value.Kind.TheVariants.{Wrong, Unsupported, OutOfRange}
use Rattle.iso_explain_settings.specs.declared.wanted.Wanted.{Wanted}
use Rattle.iso_explain_settings.specs.declared.wanted.Wanted.TheVariants as W

-- the kind of a value, in words
abbrev pub kind_text : Data → List ℕ
kind_text (string s) = codes "a text"
kind_text (integer z) = codes "a whole number"
kind_text (float x) = codes "a float"
kind_text (boolean b) = codes "a boolean"
kind_text (datetime dt) = codes "a date"
kind_text (array ds) = codes "an array"
kind_text (table ms) = codes "a table"

-- a text, where the value is one
abbrev pub text_in : Data → Option (List ℕ)
text_in (string text) = Some text
text_in _ = None

-- what is compared with the words that a key takes: the text that stands there, and where there is
-- no such key, the key
abbrev pub subject : Wanted → (key : List ℕ) → Data → Option (List ℕ)
subject W.Nothing key value = Some key
subject _ key value = text_in value

-- the nearest of these words, if one is near
abbrev pub near : Option (List ℕ) → List (List ℕ) → Option (List ℕ)
near None words = None
near (Some word) words = nearest_of word words

-- a text of a world, or its key, is too long
abbrev pub is_long_text : Kind → Wanted → Bool
is_long_text OutOfRange W.Text = true
is_long_text _ _ = false

-- why a value of JUnit's is left out
abbrev pub left_out_hint : Wanted → List ℕ
left_out_hint W.Strategy = codes "a custom strategy is a Java class, and none is run here"
left_out_hint _ = codes "each test has an instance of its own, so there is no other lifecycle"

-- what mends a truth value, a number, a text of a world
abbrev pub flag_hint : Data → Option (List ℕ)
flag_hint (string s) = Some (codes "write true or false, without quotes")
flag_hint _ = None

abbrev pub count_hint : Data → Option (List ℕ)
count_hint (float x) = Some (codes "write the number without a point")
count_hint (string s) =
    Some (codes "write the number without quotes, or as one to nine digits in them")
count_hint _ = None

abbrev pub text_hint : (key : List ℕ) → Data → Option (List ℕ)
text_hint key (string s) =
    Some (cond (is_printable key) (codes "a byte of the text isn't printable ASCII")
    (codes "a byte of the key isn't printable ASCII"))
text_hint key (array ds) = Some (codes "write a text for each key")
text_hint key _ = Some (codes "write it as a text, in double quotes")

-- what mends a value that is of another kind or text than its key takes
abbrev pub wrong_hint : Wanted → (key : List ℕ) → Data → Option (List ℕ)
wrong_hint W.Flag key value = flag_hint value
wrong_hint W.Count key value = count_hint value
wrong_hint W.Text key value = text_hint key value
wrong_hint W.Table key value =
    Some (codes "write a header such as [files], and a line for each text below it")
wrong_hint _ key value = None

-- what mends a value
abbrev pub hint : Kind → Wanted → (key : List ℕ) → Data → Option (List ℕ)
hint Wrong wanted key value = wrong_hint wanted key value
hint Unsupported wanted key value = Some (left_out_hint wanted)
hint OutOfRange wanted key value = None
