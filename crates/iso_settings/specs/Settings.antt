-- Settings of a run, as a function of a TOML table. The keys and their values are JUnit 5's
-- configuration parameters (User Guide, parallel execution and test instance lifecycle).
--
-- settings of a table: Each key of JUnit's read by its rule in the stated order, its default where
-- it is absent; then the number of workers (`settings_of`, `workers`); a reader's error is a fault
-- or out of memory (`SettingsError`).
-- Also in: `Readings`.
-- Standard: JUnit 5 User Guide, parallel execution, test instance lifecycle.
use Prim.Native.String.{String}
use Rattle.std.specs.Prelude.{ℕ, ◌*◌, ℤ, pos, negsuc, Bool, true, false, ◌&&◌, nat_le, min, if◌then◌else◌, List, [], ◌∷◌, ◌++◌, codes, length, Option, Some, None, unwrap_or, Ok, Err}
use Rattle.std.specs.Str.{str_eq_ignore_ascii_case, all_ascii_digits}
use Rattle.std.specs.Str.Parse.{digits_value}
use Rattle.toml.specs.Data.{Data, string, integer, boolean, Members}
use Rattle.iso_model.specs.declared.script.Mode.{Mode}
use Rattle.iso_model.specs.declared.script.Mode.TheVariants.{SameThread, Concurrent}
use Rattle.iso_settings.specs.Leaves.{Leaf, leaves, values_at}
use Rattle.iso_settings.specs.Readings.{Reading, ◌>>=◌}
use Rattle.iso_settings.specs.declared.fault.SettingsFault.TheVariants.{NotToml, WrongValue, Unsupported, MissingParallelism, OutOfRange}
use Rattle.iso_settings.specs.declared.settings.Settings.{Settings}
use Rattle.iso_settings.specs.declared.settings.Strategy.{Strategy}
use Rattle.iso_settings.specs.declared.settings.Strategy.TheVariants.{Dynamic, Fixed}

-- a key of JUnit's
abbrev pub jupiter : String → List ℕ
jupiter name = codes "junit.jupiter." ++ codes name

-- how the value at a key is read
abbrev pub Rule : Type 0 → Type 0
Rule A = List ℕ → Data → Reading A

-- the text is this word, in capitals or not
abbrev pub is_word : List ℕ → String → Bool
is_word text word = str_eq_ignore_ascii_case text (codes word)

-- a truth value, which may be given as a text
abbrev pub flag : Rule Bool
flag key (boolean value) = Ok value
flag key (string text) =
    if is_word text "true" then Ok true
    else if is_word text "false" then Ok false
    else Err (WrongValue key)
flag key _ = Err (WrongValue key)

-- an execution mode
abbrev pub mode : Rule Mode
mode key (string text) =
    if is_word text "same_thread" then Ok SameThread
    else if is_word text "concurrent" then Ok Concurrent
    else Err (WrongValue key)
mode key _ = Err (WrongValue key)

-- a strategy; JUnit's `custom` names a Java class
abbrev pub strategy : Rule Strategy
strategy key (string text) =
    if is_word text "dynamic" then Ok Dynamic
    else if is_word text "fixed" then Ok Fixed
    else if is_word text "custom" then Err (Unsupported key)
    else Err (WrongValue key)
strategy key _ = Err (WrongValue key)

-- a number of 1 to 64
abbrev pub in_range : List ℕ → ℤ → Reading ℕ
in_range key (pos n) = if nat_le 1 n && nat_le n 64 then Ok n else Err (OutOfRange key)
in_range key (negsuc n) = Err (OutOfRange key)

-- one to nine decimal digits
abbrev pub is_numeral : List ℕ → Bool
is_numeral text = (nat_le 1 (length text) && nat_le (length text) 9) && all_ascii_digits text

-- a whole number of 1 to 64, which may be given as a text of one to nine digits
abbrev pub count : Rule ℕ
count key (integer value) = in_range key value
count key (string text) =
    if is_numeral text then in_range key (pos (digits_value 10 text)) else Err (WrongValue key)
count key _ = Err (WrongValue key)

-- the one lifecycle that there is, a test instance for each method
abbrev pub lifecycle : Rule (Unit {0})
lifecycle key (string text) = if is_word text "per_method" then Ok tt else Err (Unsupported key)
lifecycle key _ = Err (WrongValue key)

-- The only value at a key, if there is one. A key that two spellings reach is a wrong value,
-- whatever its values are.
abbrev pub only_value : List ℕ → List Data → Reading (Option Data)
only_value key [] = Ok None
only_value key (value ∷ []) = Ok (Some value)
only_value key (first ∷ second ∷ more) = Err (WrongValue key)

-- what a value is read as, if there is one
abbrev pub read : {A : Type 0} → Rule A → List ℕ → Option Data → Reading (Option A)
read rule key None = Ok None
read rule key (Some value) = rule key value >>= (λ x. Ok (Some x))

-- what is read at a key
abbrev pub setting : {A : Type 0} → Rule A → List Leaf → List ℕ → Reading (Option A)
setting rule all key = only_value key (values_at key all) >>= read rule key

-- The number of workers: one where parallel execution is off. The dynamic strategy gives the
-- processors times the factor, at most 64, the fixed one its parallelism.
abbrev pub workers : (is_parallel : Bool) → (chosen : Strategy) → (factor : ℕ)
    → (parallelism : Option ℕ)
    → (processors : ℕ) → Reading ℕ
workers false chosen factor parallelism processors = Ok 1
workers true Dynamic factor parallelism processors = Ok (min (processors * factor) 64)
workers true Fixed factor (Some n) processors = Ok n
workers true Fixed factor None processors = Err MissingParallelism

-- the settings of a table's leaves, or the first fault; each key is read, used or not
abbrev pub settings_of : List Leaf → (processors : ℕ) → Reading Settings
settings_of all processors = do
  is_parallel ← setting flag all (jupiter "execution.parallel.enabled")
  default ← setting mode all (jupiter "execution.parallel.mode.default")
  classes_default ← setting mode all (jupiter "execution.parallel.mode.classes.default")
  chosen ← setting strategy all (jupiter "execution.parallel.config.strategy")
  factor ← setting count all (jupiter "execution.parallel.config.dynamic.factor")
  parallelism ← setting count all (jupiter "execution.parallel.config.fixed.parallelism")
  ignored ← setting lifecycle all (jupiter "testinstance.lifecycle.default")
  worker_count ← workers (unwrap_or is_parallel false) (unwrap_or chosen Dynamic)
      (unwrap_or factor 1) parallelism processors
  Ok (record {
    parallel = unwrap_or is_parallel false;
    default_mode = unwrap_or default SameThread;
    classes_default_mode = unwrap_or classes_default (unwrap_or default SameThread);
    worker_count = worker_count;
  })

-- the settings of a document: of the table that it is, where it is TOML
abbrev pub settings_in : Option Members → (processors : ℕ) → Reading Settings
settings_in None processors = Err NotToml
settings_in (Some document) processors = settings_of (leaves document) processors
