-- What is shown of names and lines has no control characters.
use Rattle.std.proofs.Common.{◌≡◌, ◌<◌, ◌≤◌, ℕ, ◌+◌, ◌/◌, ◌%◌, List, [], ◌∷◌, Bool, true, false, ◌&&◌, ◌||◌, ◌==◌, nat_lt, cond, length, take, map, codes, refl, ap₂, ◌∙◌, arith}
use Rattle.std.proofs.lemmas.Bool.Decides.{nat_tests}
use Rattle.std.proofs.lemmas.List.Folds.{list_all-append, list_any-append}
use Rattle.std.specs.Char.{encode_utf8, is_ascii_control, is_control}
use Rattle.std.specs.List.{flat_map, list_all}
use Rattle.std.specs.Str.{chars}
use Rattle.iso_summary.specs.Names.{escape, has_ascii_control, hex_digit, long_escape, short_escape, shown_char, shown_name}
use Rattle.iso_summary.proofs.UnseenLemmas.{seen-is-no-control}
use Rattle.iso_summary.specs.ShownLines.{cut_end, is_printable, shown_byte, shown_bytes, shown_source}
use Rattle.iso_summary.specs.Unseen.{is_unseen}

-- a byte from a space on that isn't 127 is no control character
no_control : (b : ℕ) → 32 ≤ b → (b == 127) ≡ false → is_ascii_control b ≡ false
no_control b h e = grind (arith, nat_tests)

beyond : (b : ℕ) → 128 ≤ b → is_ascii_control b ≡ false
beyond b h = no_control b (omega arith) (grind (arith, nat_tests))

digit_has_none : (d : ℕ) → d < 16 → is_ascii_control (hex_digit d) ≡ false
digit_has_none d h = grind (arith, nat_tests)

escape_has_none : (c : ℕ) → has_ascii_control (escape c) ≡ false
escape_has_none c = by (nat_lt c 65536)
  where
    digit : (n : ℕ) → is_ascii_control (hex_digit (n % 16)) ≡ false
    digit n = digit_has_none (n % 16) (omega arith)

    by : (short : Bool) → has_ascii_control (cond short (short_escape c) (long_escape c)) ≡ false
    by true = rw (digit (c / 4096), digit (c / 256), digit (c / 16), digit c) refl
    by false =
        rw (digit (c / 268435456), digit (c / 16777216), digit (c / 1048576), digit (c / 65536), digit (c / 4096), digit (c / 256), digit (c / 16), digit c)
        refl

-- a character that is no control character is written without one
plain_has_none : (c : ℕ) → is_control c ≡ false → has_ascii_control (encode_utf8 c) ≡ false
unfolding encode_utf8
plain_has_none c h = by (nat_lt c 128) (nat_lt c 2048) (nat_lt c 65536) refl
  where
    next : (n : ℕ) → is_ascii_control (128 + n % 64) ≡ false
    next n = beyond (128 + n % 64) (omega arith)

    by : (s t u : Bool) → nat_lt c 128 ≡ s
        → has_ascii_control (cond s (c ∷ []) (cond t ((192 + c / 64) ∷ (128 + c % 64) ∷ [])
        (cond u ((224 + c / 4096) ∷ (128 + (c / 64) % 64) ∷ (128 + c % 64) ∷ []) ((240 + c / 262144) ∷ (128 + (c / 4096) % 64) ∷ (128 + (c / 64) % 64) ∷ (128 + c % 64) ∷ [])))) ≡ false
    by true t u e = let low : is_ascii_control c ≡ false = grind (arith, nat_tests) in rw low refl
    by false true u e = rw (beyond (192 + c / 64) (omega arith), next c) refl
    by false false true e = rw (beyond (224 + c / 4096) (omega arith), next (c / 64), next c) refl
    by false false false e = rw (beyond (240 + c / 262144) (omega arith), next (c / 4096), next (c / 64), next c) refl

char_has_none : (c : ℕ) → has_ascii_control (shown_char c) ≡ false
char_has_none c = by (c == 10) (c == 13) (c == 9) (is_unseen c) refl
  where
    by : (s t u v : Bool) → is_unseen c ≡ v
        → has_ascii_control (cond s (codes "\\n") (cond t (codes "\\r") (cond u (codes "\\t") (cond v (escape c) (encode_utf8 c))))) ≡ false
    by true t u v e = refl
    by false true u v e = refl
    by false false true v e = refl
    by false false false true e = escape_has_none c
    by false false false false e = plain_has_none c (seen-is-no-control c e)

all_have_none : (cs : List ℕ) → has_ascii_control (flat_map shown_char cs) ≡ false
all_have_none [] = refl
all_have_none (c ∷ cs) =
    list_any-append is_ascii_control (shown_char c) (flat_map shown_char cs) ∙ ap₂ (λ (a b : Bool). a || b) (char_has_none c) (all_have_none cs)

pub name-has-none : (name : List ℕ) → has_ascii_control (shown_name name) ≡ false
name-has-none name = all_have_none (chars name)

-- each byte of a line is shown as a printable one
byte_is_printable : (b : ℕ) → is_printable (shown_byte b) ≡ true
byte_is_printable b = by (b == 9) (is_printable b) refl
  where
    by : (s t : Bool) → is_printable b ≡ t → is_printable (cond s 32 (cond t b 63)) ≡ true
    by true t e = refl
    by false true e = e
    by false false e = refl

pub bytes-are-printable : (bs : List ℕ) → list_all is_printable (map shown_byte bs) ≡ true
bytes-are-printable [] = refl
bytes-are-printable (b ∷ bs) = ap₂ (λ (s t : Bool). s && t) (byte_is_printable b) (bytes-are-printable bs)

end_is_printable : (line : List ℕ) → list_all is_printable (cut_end line) ≡ true
end_is_printable line = by (nat_lt 160 (length line))
  where
    by : (t : Bool) → list_all is_printable (cond t (codes "..") []) ≡ true
    by true = refl
    by false = refl

pub line-is-printable : (line : List ℕ) → list_all is_printable (shown_source line) ≡ true
line-is-printable line =
    list_all-append is_printable (shown_bytes line) (cut_end line) ∙ ap₂ (λ (s t : Bool). s && t) (bytes-are-printable (take 160 line)) (end_is_printable line)
