-- Settings as they are told.
--
-- what settings come to: Each setting with its value and where this is from (`setting_line`), keys
-- that are unknown and how many there are more, and the workers (`settings_text`).
-- Also in: `SettingsTexts`.
use Rattle.std.specs.Prelude.{ℕ, List, ◌++◌, Bool, ◌==◌, cond, codes, Option, Some, None}
use Rattle.std.specs.Fmt.{decimal}
use Rattle.iso_tap.specs.Pieces.{pieces_text}
use Rattle.iso_tap.specs.declared.printer.Piece.{Piece}
use Rattle.iso_hints.specs.declared.setting.Origin.{Origin}
use Rattle.iso_hints.specs.declared.setting.Origin.TheVariants.{Default, File, Unused}
use Rattle.iso_hints.specs.declared.setting.Setting.{Setting}
use Rattle.iso_hints.specs.declared.setting.Value.{Value}
use Rattle.iso_hints.specs.declared.setting.Value.TheVariants.{Flag, Number, Word}

-- a truth value as TOML has it
abbrev pub flag_text : Bool → List ℕ
flag_text flag = cond flag (codes "true") (codes "false")

-- a value as TOML has it
abbrev pub value_text : Value → List ℕ
value_text (Flag flag) = flag_text flag
value_text (Number number) = decimal number
value_text (Word word) = codes "\"" ++ word.now ++ codes "\""

-- where a value is from
abbrev pub origin_text : Origin → List ℕ
origin_text Default = codes " (default)"
origin_text File = codes " (file)"
origin_text (Unused why) = codes " (file, not used: " ++ why.now ++ codes ")"

-- a setting with a value
abbrev pub set_line : List ℕ → Value → Origin → List ℕ
set_line key value origin =
    key ++ codes " = " ++ value_text value ++ origin_text origin ++ codes "\n"

-- a setting without one
abbrev pub unset_line : List ℕ → List ℕ
unset_line key = key ++ codes " not set\n"

abbrev pub line_of : List ℕ → Option Value → Origin → List ℕ
line_of key (Some value) origin = set_line key value origin
line_of key None origin = unset_line key

-- a setting, as a line
abbrev pub setting_line : Setting → List ℕ
setting_line setting = line_of setting.key.now setting.value setting.origin

-- the word for `count` workers
abbrev pub workers_word : ℕ → List ℕ
workers_word count = cond (count == 1) (codes " worker: ") (codes " workers: ")

-- how many workers there are, and why, as a line
abbrev pub workers_line : ℕ → List Piece → List ℕ
workers_line count why = decimal count ++ workers_word count ++ pieces_text why ++ codes "\n"
