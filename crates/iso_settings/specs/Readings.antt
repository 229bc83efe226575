-- What a text is read as: a value, or the first fault.
use Rattle.std.specs.Prelude.{◌≡◌, Result, Ok, Err}
use Rattle.iso_model.specs.declared.input_error.InputError.{InputError}
use Rattle.iso_model.specs.declared.input_error.InputError.TheVariants.{Fault, OutOfMemory}
use Rattle.iso_settings.specs.declared.fault.SettingsFault.{SettingsFault}

-- why settings or a world could not be read
abbrev pub SettingsError : Type 0
SettingsError = InputError SettingsFault

-- a value, or the first fault
abbrev pub Reading : Type 0 → Type 0
Reading A = Result A SettingsFault

-- a reading, and then what its value is read as; a fault stays
infixl 10 ◌>>=◌
abbrev pub ◌>>=◌ : {A B : Type 0} → Reading A → (A → Reading B) → Reading B
Ok x >>= f = f x
Err fault >>= f = Err fault

-- the error is this fault, unless memory ran out
abbrev pub IsFault : SettingsFault → SettingsError → Type 0
IsFault fault (Fault answered) = answered ≡ fault
IsFault fault OutOfMemory = Unit {0}

-- A result is a reading, unless memory ran out. By `seen` the result's value is seen as the
-- reading's.
abbrev pub GivesAs : {A B : Type 0} → (seen : A → B) → Reading B → Result A SettingsError → Type 0
GivesAs seen reading (Ok x) = reading ≡ Ok (seen x)
GivesAs seen reading (Err (Fault fault)) = reading ≡ Err fault
GivesAs seen reading (Err OutOfMemory) = Unit {0}

abbrev pub Gives : {A : Type 0} → Reading A → Result A SettingsError → Type 0
Gives reading = GivesAs (λ x. x) reading
