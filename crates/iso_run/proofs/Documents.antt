-- Documents of bytes that are UTF-8, and of bytes that aren't.
use Rattle.std.proofs.Common.{◌≡◌, ℕ, List, Bool, true, false, if◌then◌else◌, Option, None, Some, Ok, Err, refl}
use Rattle.std.proofs.lemmas.Str.{IsUtf8-from_is_utf8, is_utf8-from_IsUtf8}
use Rattle.std.specs.Prelude.{IsUtf8}
use Rattle.std.specs.Str.{is_utf8}
use Rattle.toml.specs.Data.{Members}
use Rattle.toml.specs.Parse.{parse_document}
use Rattle.iso_run.specs.Suites.{document, settings_from}
use Rattle.iso_settings.specs.Settings.{settings_in}
use Rattle.iso_settings.specs.declared.settings.Settings.{Settings}

pub document-of_text : (bytes text : List ℕ) → text ≡ bytes → IsUtf8 bytes → document bytes ≡ parse_document text
document-of_text bytes text same is_text = rw (is_utf8-from_IsUtf8 bytes is_text, same) refl

broken_by : (bytes : List ℕ) → (IsUtf8 bytes → ⊥) → (t : Bool) → is_utf8 bytes ≡ t → (if t then parse_document bytes else None) ≡ None
broken_by bytes broken true e = absurd (broken (IsUtf8-from_is_utf8 bytes e))
broken_by bytes broken false e = refl

pub document-of_broken : (bytes : List ℕ) → (IsUtf8 bytes → ⊥) → document bytes ≡ None
document-of_broken bytes broken = broken_by bytes broken (is_utf8 bytes) refl

none-is-some : {A : Type 0} (a : A) → None ≡ Some a → ⊥
none-is-some a h = cc

-- what a document is of
pub document-is : (bytes : List ℕ) (members : Members) → document bytes ≡ Some members → IsUtf8 bytes × (parse_document bytes ≡ Some members)
document-is bytes members = by (is_utf8 bytes) refl
  where
    by : (t : Bool) → is_utf8 bytes ≡ t → (if t then parse_document bytes else None) ≡ Some members → IsUtf8 bytes × (parse_document bytes ≡ Some members)
    by true e h = (IsUtf8-from_is_utf8 bytes e, h)
    by false e h = absurd (none-is-some members h)

-- settings are read of a document
pub document-of_settings : (bytes : List ℕ) (processors : ℕ) (settings : Settings) → settings_from bytes processors ≡ Ok settings → (members : Members) × (document bytes ≡ Some members)
document-of_settings bytes processors settings = by (document bytes) refl
  where
    by : (read : Option Members) → document bytes ≡ read → settings_in read processors ≡ Ok settings → (members : Members) × (document bytes ≡ Some members)
    by None e h = absurd (let wrong : Err _ ≡ Ok settings = h in cc)
    by (Some members) e h = (members, e)
