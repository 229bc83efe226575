-- The words of the examples.
use Prim.Native.String.{String}
use Rattle.std.specs.Prelude.{ℕ, ◌+◌, List, [], ◌∷◌, ◌++◌, Option, Some, codes, length, map}
use Rattle.std.specs.Borrow.{Bor}
use Rattle.iso_hints.specs.Hints.{form_at, hint_at}
use Rattle.iso_hints.specs.Keys.{meant_key}
use Rattle.iso_tap.specs.declared.printer.Piece.{Piece}
use Rattle.iso_tap.specs.declared.printer.Piece.TheVariants.{Plain}
use Rattle.iso_hints.specs.Nearest.{near_words}
use Rattle.iso_hints.specs.declared.setting.Origin.TheVariants.{Default, File, Unused}
use Rattle.iso_hints.specs.declared.setting.Setting.{Setting}
use Rattle.iso_hints.specs.declared.setting.Value.{Value}
use Rattle.iso_hints.specs.declared.settings.UnknownKey.{UnknownKey}

-- the near words of these
abbrev pub near_to : String → List String → List (List ℕ)
near_to word candidates = near_words (codes word) (map codes candidates)

-- the key that was meant by one
abbrev pub meant_by : String → Option (List ℕ)
meant_by key = meant_key (codes key)

-- what is told of the place between two parts of a script
abbrev pub in_script : String → String → Option (List ℕ)
in_script front rest = hint_at (codes front ++ codes rest) (length (codes front))

-- what is told of a place in a class
abbrev pub in_class : String → String → Option (List ℕ)
in_class front rest =
    let head = codes "team shop\nclass Cart {\n  " in
    hint_at (head ++ (codes front ++ codes rest)) (length head + length (codes front))

-- what is told of a place in a test
abbrev pub in_test : String → String → Option (List ℕ)
in_test front rest =
    let head = codes "team shop\nclass Cart {\n  test adds {\n    " in
    hint_at (head ++ (codes front ++ codes rest)) (length head + length (codes front))

-- what is told of what is begun before a place in a class, and in a test
abbrev pub form_in_class : String → String → Option (List ℕ)
form_in_class front rest =
    let head = codes "team shop\nclass Cart {\n  " in
    form_at (head ++ (codes front ++ codes rest)) (length head + length (codes front))

abbrev pub form_in_test : String → String → Option (List ℕ)
form_in_test front rest =
    let head = codes "team shop\nclass Cart {\n  test adds {\n    " in
    form_at (head ++ (codes front ++ codes rest)) (length head + length (codes front))

-- lines with their line ends
abbrev pub text_of : List String → List ℕ
text_of [] = []
text_of (line ∷ lines) = codes line ++ codes "\n" ++ text_of lines

-- a label of one piece
abbrev pub labelled : String → List Piece
labelled text = Plain (record { ref_ptr = (0, 0); now = codes text }) ∷ []

-- a text as code lends it
abbrev pub lent : String → Bor (List ℕ)
lent text = record { ref_ptr = (0, 0); now = codes text }

-- a setting of the file
abbrev pub in_file : String → Value → Setting
in_file key value = record { key = lent key; value = Some value; origin = File }

-- a setting that isn't in the file
abbrev pub by_default : String → Option Value → Setting
by_default key value = record { key = lent key; value = value; origin = Default }

-- a setting of the file that isn't used
abbrev pub unused : String → Value → String → Setting
unused key value why = record { key = lent key; value = Some value; origin = Unused (lent why) }

-- a key that is unknown, and what was meant
abbrev pub mistyped : String → String → UnknownKey
mistyped key meant = record { key = lent key; meant = Some (lent meant) }
