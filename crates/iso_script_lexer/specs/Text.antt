-- Texts between quotes.
--
-- quoted text: What stands between quotes, and the text that it means (`written`, `decoded`).
use Rattle.iso_model.specs.declared.limits.TheConstants.{TEXT_BYTES}
use Rattle.std.specs.Prelude.{ℕ, ◌≤◌, ◌≡◌, List, [], ◌∷◌, Bool, true, false, nat_eq, ◌&&◌, not, IsTrue, length, if◌then◌else◌}
use Rattle.std.specs.List.{AllByRecursion}
use Rattle.iso_script_lexer.specs.Spelling.{quote, backslash, is_printable, is_escaped}

-- how a text is written: with a backslash before each quote and each backslash
abbrev pub written : List ℕ → List ℕ
written [] = []
written (b ∷ bs) = if is_escaped b then backslash ∷ b ∷ written bs else b ∷ written bs

-- a text: printable bytes, at most 4,096
pub record IsText (bs : List ℕ) : Type 0 where
  pub printable : AllByRecursion (λ b. is_printable b ≡ true) bs
  pub short : length bs ≤ TEXT_BYTES

-- what is meant by bytes between quotes: a backslash is left out, and the byte after it stands for
-- itself
unfoldable pub decoded : (escaped : Bool) → List ℕ → List ℕ
decoded escaped [] = []
decoded false (b ∷ bs) = if nat_eq b backslash then decoded true bs else b ∷ decoded false bs
decoded true (b ∷ bs) = b ∷ decoded false bs

-- printable bytes, in which each quote and each backslash is escaped, and nothing else is
unfoldable pub is_quoted : (escaped : Bool) → List ℕ → Bool
is_quoted escaped [] = not escaped
is_quoted false (b ∷ bs) =
    if nat_eq b backslash then is_quoted true bs
    else (not (nat_eq b quote) && is_printable b) && is_quoted false bs
is_quoted true (b ∷ bs) = is_escaped b && is_quoted false bs

-- the bytes between the quotes of a text
pub record IsQuoted (raw : List ℕ) : Type 0 where
  pub plain : IsTrue (is_quoted false raw)
  pub short : length (decoded false raw) ≤ TEXT_BYTES
