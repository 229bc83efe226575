-- Settings, key by key.
use Rattle.std.proofs.Common.{◌≡◌, Ok, Err, ap, ◌∙◌}
use Rattle.iso_settings.specs.Readings.{Reading, ◌>>=◌, Gives, SettingsError}
use Rattle.iso_model.specs.declared.input_error.InputError.TheVariants.{Fault, OutOfMemory}

-- past a reading that gives a value, the rest is left
pub past : {A B : Type 0} {whole : Reading B} (r : Reading A) (f : A → Reading B) {x : A} → whole ≡ r >>= f → r ≡ Ok x → whole ≡ f x
past r f parts is = parts ∙ ap (λ r. r >>= f) is

-- the fault of the reading that comes next is that of the whole
pub fault_next : {A B : Type 0} {whole : Reading B} (r : Reading A) (f : A → Reading B) (e : SettingsError) → whole ≡ r >>= f → Gives r (Err e) → Gives whole (Err e)
fault_next r f (Fault fault) parts is = parts ∙ ap (λ r. r >>= f) is
fault_next r f OutOfMemory parts is = tt
