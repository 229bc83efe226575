-- What settings have at their keys, as it is told.
--
-- listing of settings: Each key with its value in the document, which may not be used, or by
-- default (`setting_text`, `unused`), the unknown keys (`unknown_in`), and the workers and why
-- (`why_text`, `listing_text`).
-- Also in: `Unknown`, `Listing`.
-- Standard: JUnit 5 User Guide, configuration parameters.
use Rattle.std.specs.Prelude.{ℕ, ℤ, pos, negsuc, List, [], ◌∷◌, ◌++◌, Bool, false, ◌&&◌, ◌||◌, not, if◌then◌else◌, cond, bytes_eq, codes, nat_le, Option, None, Some, option_map}
use Rattle.std.specs.Fmt.{decimal}
use Rattle.std.specs.Str.Parse.{digits_value}
use Rattle.toml.specs.Data.{Data, string, integer, boolean}
use Rattle.iso_hints.specs.Settings.{flag_text}
use Rattle.iso_model.specs.declared.script.Mode.{Mode}
use Rattle.iso_model.specs.declared.script.Mode.TheVariants.{SameThread, Concurrent}
use Rattle.iso_settings.specs.Leaves.{Leaf, values_at}
use Rattle.iso_settings.specs.Settings.{is_numeral, is_word}
use Rattle.iso_explain_settings.specs.Wanted.{settings_wanted}
use Rattle.iso_explain_settings.specs.declared.wanted.Wanted.{Wanted}
use Rattle.iso_explain_settings.specs.declared.wanted.Wanted.TheVariants as W

-- the only value of these
abbrev pub only : List Data → Option Data
only (value ∷ []) = Some value
only _ = None

abbrev pub and_then : {A : Type 0} → Option Data → (Data → Option A) → Option A
and_then None f = None
and_then (Some value) f = f value

-- a word as TOML has it
abbrev pub quoted : List ℕ → List ℕ
quoted word = codes "\"" ++ word ++ codes "\""

-- a truth value, a mode, a strategy and the lifecycle, as TOML has them
abbrev pub flag_of : Data → Option (List ℕ)
flag_of (boolean flag) = Some (flag_text flag)
flag_of (string text) = Some (flag_text (is_word text "true"))
flag_of _ = None

abbrev pub mode_of : Data → Option (List ℕ)
mode_of (string text) =
    Some (quoted (cond (is_word text "concurrent") (codes "concurrent") (codes "same_thread")))
mode_of _ = None

abbrev pub strategy_of : Data → Option (List ℕ)
strategy_of (string text) =
    Some (quoted (cond (is_word text "fixed") (codes "fixed") (codes "dynamic")))
strategy_of _ = None

abbrev pub lifecycle_of : Data → Option (List ℕ)
lifecycle_of (string text) = Some (quoted (codes "per_method"))
lifecycle_of _ = None

-- the number that one to nine digits write
abbrev pub numeral_of : List ℕ → Option ℕ
numeral_of text = if is_numeral text then Some (digits_value 10 text) else None

-- a number, if it is 1 to 64
abbrev pub within : ℤ → Option ℕ
within (pos n) = cond (nat_le 1 n && nat_le n 64) (Some n) None
within (negsuc n) = None

-- a number, or the number that a text writes
abbrev pub count_of : Data → Option ℕ
count_of (integer z) = within z
count_of (string text) = numeral_of text
count_of _ = None

-- a value, if it is of a kind that is taken
abbrev pub told_of : Wanted → Data → Option (List ℕ)
told_of W.Flag value = flag_of value
told_of W.Mode value = mode_of value
told_of W.Strategy value = strategy_of value
told_of W.Count value = option_map decimal (count_of value)
told_of W.Lifecycle value = lifecycle_of value
told_of _ value = None

-- the value at a key, and the number at one
abbrev pub told_at : List ℕ → List Leaf → Option (List ℕ)
told_at key leaves = and_then (only (values_at key leaves)) (told_of (settings_wanted key))

abbrev pub count_at : List ℕ → List Leaf → Option ℕ
count_at key leaves = and_then (only (values_at key leaves)) count_of

-- whether a value is the word of the fixed strategy
abbrev pub is_fixed_word : Data → Bool
is_fixed_word (string text) = is_word text "fixed"
is_fixed_word _ = false

abbrev pub is_fixed : Option Data → Bool
is_fixed None = false
is_fixed (Some value) = is_fixed_word value

abbrev pub is_fixed_at : List ℕ → List Leaf → Bool
is_fixed_at key leaves = is_fixed (only (values_at key leaves))

-- whether the fixed strategy is chosen
abbrev pub is_fixed_in : List Leaf → Bool
is_fixed_in leaves = is_fixed_at (codes "junit.jupiter.execution.parallel.config.strategy") leaves

-- why the value at a key isn't used, if it isn't
abbrev pub unused : List ℕ → (is_parallel is_fixed : Bool) → Option (List ℕ)
unused key is_parallel is_fixed =
    if bytes_eq key (codes "junit.jupiter.execution.parallel.enabled")
    || bytes_eq key (codes "junit.jupiter.testinstance.lifecycle.default") then None
    else if not is_parallel then Some (codes "parallel execution is off")
    else if bytes_eq key (codes "junit.jupiter.execution.parallel.config.dynamic.factor")
    && is_fixed then Some (codes "strategy is fixed")
    else if bytes_eq key (codes "junit.jupiter.execution.parallel.config.fixed.parallelism")
    && not is_fixed then Some (codes "strategy is dynamic")
    else None

-- the word of an execution mode
abbrev pub mode_word : Mode → List ℕ
mode_word SameThread = codes "same_thread"
mode_word Concurrent = codes "concurrent"

-- what a key has that isn't in the file
abbrev pub default_text : List ℕ → Mode → Option (List ℕ)
default_text key default_mode =
    if bytes_eq key (codes "junit.jupiter.execution.parallel.enabled") then Some (codes "false")
    else if bytes_eq key (codes "junit.jupiter.execution.parallel.mode.default") then Some
    (quoted (codes "same_thread"))
    else if bytes_eq key (codes "junit.jupiter.execution.parallel.mode.classes.default") then Some
    (quoted (mode_word default_mode))
    else if bytes_eq key (codes "junit.jupiter.execution.parallel.config.strategy") then Some
    (quoted (codes "dynamic"))
    else if bytes_eq key (codes "junit.jupiter.execution.parallel.config.dynamic.factor") then
    Some (decimal 1)
    else if bytes_eq key (codes "junit.jupiter.testinstance.lifecycle.default") then Some
    (quoted (codes "per_method"))
    else None

-- where a value of the file is from, and why it isn't used
abbrev pub file_origin : Option (List ℕ) → List ℕ
file_origin None = codes " (file)"
file_origin (Some why) = codes " (file, not used: " ++ why ++ codes ")"

-- a key that has a value by default, or none
abbrev pub default_line : List ℕ → Option (List ℕ) → List ℕ
default_line key (Some value) = key ++ codes " = " ++ value ++ codes " (default)" ++ codes "\n"
default_line key None = key ++ codes " not set\n"

-- a key with its value in the file, if there is one
abbrev pub file_line : List ℕ → (value : Option (List ℕ)) → (origin default : List ℕ) → List ℕ
file_line key (Some value) origin default = key ++ codes " = " ++ value ++ origin ++ codes "\n"
file_line key None origin default = default

-- what is told of a key: its value and where this is from
abbrev pub setting_text : List ℕ → List Leaf → (is_parallel : Bool) → (default_mode : Mode) → List ℕ
setting_text key leaves is_parallel default_mode =
    file_line key (told_at key leaves)
    (file_origin (unused key is_parallel (is_fixed_in leaves)))
    (default_line key (default_text key default_mode))
