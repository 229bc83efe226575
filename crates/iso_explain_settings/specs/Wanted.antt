-- What keys take.
--
-- explanation of a fault of settings or a world: What a key takes (`wanted_at`, `takes`), what is
-- told of the values that stand there (`value_text`, `IsTold`, `IsExplained`), with what mends it
-- (`near`, `hint`); where a document that is none stops (`refusal_text`, `IsRefusal`).
-- Also in: `Values`, `Told`, `Explanations`, `Places`, `Refusals`, `Parts`, `Printable`.
use Rattle.std.specs.Prelude.{ℕ, List, Bool, ◌||◌, if◌then◌else◌, bytes_eq, codes, map, nat_eq, slice_get, Option}
use Rattle.std.specs.List.{starts_with}
use Rattle.iso_hints.specs.Nearest.{near_words}
use Rattle.iso_explain_settings.specs.declared.wanted.File.{File}
use Rattle.iso_explain_settings.specs.declared.wanted.File.TheVariants.{Settings, World}
use Rattle.iso_explain_settings.specs.declared.wanted.Wanted.{Wanted}
use Rattle.iso_explain_settings.specs.declared.wanted.Wanted.TheVariants.{Flag, Mode, Strategy, Count, Lifecycle, Text, Table, Nothing}
use Rattle.iso_explain_settings.specs.declared.wanted.TheConstants as the

-- what a key of settings takes
abbrev pub settings_wanted : List ℕ → Wanted
settings_wanted key =
    if bytes_eq key (codes "junit.jupiter.execution.parallel.enabled") then Flag
    else if bytes_eq key (codes "junit.jupiter.execution.parallel.mode.default")
    || bytes_eq key (codes "junit.jupiter.execution.parallel.mode.classes.default") then Mode
    else if bytes_eq key (codes "junit.jupiter.execution.parallel.config.strategy") then Strategy
    else if bytes_eq key (codes "junit.jupiter.execution.parallel.config.dynamic.factor")
    || bytes_eq key (codes "junit.jupiter.execution.parallel.config.fixed.parallelism") then Count
    else if bytes_eq key (codes "junit.jupiter.testinstance.lifecycle.default") then Lifecycle
    else Nothing

-- the key stands in a table of a world
abbrev pub is_in_table : List ℕ → Bool
is_in_table key =
    starts_with nat_eq key (codes "files.") || starts_with nat_eq key (codes "properties.")

-- what a key of a world takes: of its tables, of its locale, of a text in a table
abbrev pub world_wanted : List ℕ → Wanted
world_wanted key =
    if bytes_eq key (codes "files") || bytes_eq key (codes "properties") then Table
    else if bytes_eq key (codes "locale") || is_in_table key then Text
    else Nothing

abbrev pub wanted_at : File → List ℕ → Wanted
wanted_at Settings key = settings_wanted key
wanted_at World key = world_wanted key

-- what stands before a key where it is told what it takes
abbrev pub before_key : Wanted → List ℕ
before_key Nothing = codes "there is no key "
before_key _ = codes ""

-- what a key takes, in words
abbrev pub takes : Wanted → List ℕ
takes Flag = codes " takes true or false"
takes Mode = codes " takes \"same_thread\" or \"concurrent\""
takes Strategy = codes " takes \"dynamic\" or \"fixed\""
takes Count = codes " takes a whole number, 1 to 64"
takes Lifecycle = codes " takes \"per_method\""
takes Text = codes " takes a text of printable ASCII, at most 4096 bytes"
takes Table = codes " takes a table of texts"
takes Nothing = codes ": a world has files, locale and properties"

-- the words that a key takes, or the keys, where there is no such key
abbrev pub words : Wanted → List (List ℕ)
words Flag = map (λ w. w.now) the.FLAGS.now
words Mode = map (λ w. w.now) the.MODES.now
words Strategy = map (λ w. w.now) the.STRATEGIES.now
words Lifecycle = map (λ w. w.now) the.LIFECYCLES.now
words Nothing = map (λ w. w.now) the.TOPS.now
words _ = map (λ w. w.now) the.NOTHING.now

-- of these words the one that is nearest to a word, if one is near
unfoldable pub nearest_of : List ℕ → List (List ℕ) → Option (List ℕ)
nearest_of word words = slice_get (near_words word words) 0
