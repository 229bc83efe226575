-- Texts of a table, member by member.
use Rattle.std.proofs.Common.{◌≡◌, ◌≤◌, ◌<◌, ℕ, List, [], ◌∷◌, ◌++◌, Ok, Err, length, slice_index, refl, ap, ◌∙◌}
use Rattle.std.proofs.lemmas.Str.{IsCharBoundary-at_seam}
use Rattle.std.specs.Str.{IsUtf8}
use Rattle.iso_model.specs.Properties.{Map}
use Rattle.iso_settings.specs.Leaves.{Leaf}
use Rattle.iso_settings.specs.Readings.{Reading, ◌>>=◌, GivesAs, SettingsError}
use Rattle.iso_settings.specs.Worlds.{texts_of, with_text}
use Rattle.iso_model.specs.declared.input_error.InputError.TheVariants.{Fault, OutOfMemory}

-- a text may be cut where another text was put behind it
pub seam : (bs xs ys : List ℕ) (n : ℕ) → bs ≡ xs ++ ys → IsUtf8 ys → n ≡ length xs → (n ≤ length bs) × (0 < n → n < length bs → 128 ≤ slice_index bs n → 192 ≤ slice_index bs n)
seam bs xs ys n e utf8 len =
    let b = IsCharBoundary-at_seam bs xs ys e utf8 in
    rw len (b.0, λ _. b.1)

-- a reading whose value is read on in two ways that agree
bind-same : {A B C : Type 0} (r : Reading A) (f : A → Reading B) (g : B → Reading C) (h : A → Reading C) → ((x : A) → h x ≡ f x >>= g) → r >>= h ≡ (r >>= f) >>= g
bind-same (Ok x) f g h same = same x
bind-same (Err fault) f g h same = refl

pub texts_of-append : (top : List ℕ) (xs ys : List Leaf) (before : Map) → texts_of top before (xs ++ ys) ≡ texts_of top before xs >>= (λ m. texts_of top m ys)
texts_of-append top [] ys before = refl
texts_of-append top (x ∷ xs) ys before = bind-same (with_text top before x.0 x.1) _ _ _ (λ texts. texts_of-append top xs ys texts)

-- a fault of the first part is one of the whole
pub fault_first : {A B C D : Type 0} (s : A → B) (t : C → D) (whole : Reading D) (r : Reading B) (f : B → Reading D) (e : SettingsError)
    → whole ≡ r >>= f → GivesAs s r (Err e) → GivesAs t whole (Err e)
fault_first s t whole r f (Fault fault) parts is = parts ∙ ap (λ x. x >>= f) is
fault_first s t whole r f OutOfMemory parts is = tt
