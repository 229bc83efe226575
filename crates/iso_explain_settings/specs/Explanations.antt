-- What is told of a fault.
use Rattle.std.specs.Prelude.{ℕ, List, [], ◌∷◌, codes}
use Rattle.toml.specs.Data.{Members}
use Rattle.iso_settings.specs.Leaves.{leaves, values_at}
use Rattle.iso_settings.specs.declared.fault.SettingsFault.{SettingsFault}
use Rattle.iso_settings.specs.declared.fault.SettingsFault.TheVariants.{NotToml, WrongValue, Unsupported, MissingParallelism, OutOfRange}
use Rattle.iso_explain_settings.specs.Parts.{joined}
use Rattle.iso_tap.specs.Sinks.{Account, Wrote}
use Rattle.iso_explain_settings.specs.Told.{Adds, IsTold}
use Rattle.iso_explain_settings.specs.Wanted.{wanted_at}
use Rattle.iso_explain_settings.specs.declared.value.Kind.TheVariants as K
use Rattle.iso_explain_settings.specs.declared.wanted.File.{File}

-- how the number of workers is given where the fixed strategy wants it
abbrev pub missing_text : List ℕ
missing_text = joined
    (codes " = the fixed strategy takes a number of workers; write at the top of the file\n"
    ∷ codes " = \"junit.jupiter.execution.parallel.config.fixed.parallelism\" = 4\n"
    ∷ codes " = or leave the strategy out: it is then as many as --processors says\n"
    ∷ [])

-- what was added of a fault of a document: of the values that stand at its key. That it is none is
-- no fault of a document
abbrev pub IsExplained : File → SettingsFault → Members → (old new : Account) → Type 0
IsExplained file NotToml document old new = Unit {0}
IsExplained file (WrongValue key) document old new =
    Adds old new (IsTold K.Wrong (wanted_at file key) key (values_at key (leaves document)))
IsExplained file (Unsupported key) document old new =
    Adds old new (IsTold K.Unsupported (wanted_at file key) key (values_at key (leaves document)))
IsExplained file MissingParallelism document old new = Wrote old new missing_text
IsExplained file (OutOfRange key) document old new =
    Adds old new (IsTold K.OutOfRange (wanted_at file key) key (values_at key (leaves document)))
