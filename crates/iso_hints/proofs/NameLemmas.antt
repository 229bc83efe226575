-- A name is text.
use Rattle.std.proofs.Common.{◌≡◌, ℕ, ◌<◌, List, [], ◌∷◌, Bool, true, false, true≢false, ◌&&◌, ◌==◌, length, not, refl, sym, ◌∙◌, arith}
use Rattle.std.proofs.lemmas.Bool.Decides.{nat_tests}
use Rattle.std.proofs.lemmas.Str.{IsUtf8-from_ascii}
use Rattle.std.proofs.lemmas.Str.Ascii.{IsAscii-nil, IsAscii-cons}
use Rattle.std.specs.List.{list_all}
use Rattle.std.specs.Str.{IsAscii, IsUtf8}
use Rattle.iso_hints.specs.Bytes.{in_name}
use Rattle.iso_hints.specs.Tokens.{is_name}

in_name_is_ascii : (b : ℕ) → in_name b ≡ true → b < 128
in_name_is_ascii b h = grind (arith, nat_tests)

both : (a b : Bool) → (a && b) ≡ true → (a ≡ true) × (b ≡ true)
both true b h = (refl, h)
both false b h = absurd (true≢false (sym h))

all_are_ascii : (bytes : List ℕ) → list_all in_name bytes ≡ true → IsAscii bytes
all_are_ascii [] h = IsAscii-nil
all_are_ascii (b ∷ bs) h =
    let parts = both (in_name b) (list_all in_name bs) h in
    IsAscii-cons b bs (in_name_is_ascii b parts.0) (all_are_ascii bs parts.1)

pub name-is-text : (bytes : List ℕ) (b : Bool) → b ≡ is_name bytes → b ≡ true → IsUtf8 bytes
name-is-text bytes b is h =
    IsUtf8-from_ascii bytes (all_are_ascii bytes (both (not (length bytes == 0)) (list_all in_name bytes) (sym is ∙ h)).1)
