-- The characters of a file's name.
use Rattle.std.proofs.Common.{◌≡◌, ◌<◌, ◌≤◌, ℕ, ◌/◌, ◌%◌, List, [], ◌∷◌, ◌++◌, Bool, true, false, ◌==◌, nat_lt, cond, codes, refl, sym, ap, ap₂, ◌∙◌, arith, append-nil}
use Rattle.std.proofs.lemmas.Bool.Decides.{nat_tests}
use Rattle.std.proofs.lemmas.Str.{IsUtf8-encode, chars-nil, chars_past_char}
use Rattle.std.specs.Char.{IsScalar, encode_utf8}
use Rattle.std.specs.List.{flat_map}
use Rattle.iso_junit.proofs.EscapeLemmas.{plain-byte}
use Rattle.iso_junit.specs.Escapes.{escaped, is_special}
use Rattle.iso_summary.proofs.PlainLemmas.{as-it-is}
use Rattle.iso_summary.specs.Names.{escape, hex_digit, long_escape, short_escape, shown_char, shown_name}
use Rattle.iso_summary.specs.Unseen.{is_unseen}

-- a character by itself
pub shown-alone : (c : ℕ) → IsScalar c → shown_name (encode_utf8 c) ≡ shown_char c
shown-alone c scalar =
    let text = IsUtf8-encode c scalar in
    let one = chars_past_char (encode_utf8 c) [] c text (sym (append-nil (encode_utf8 c))) ∙ ap (λ (cs : List ℕ). c ∷ cs) chars-nil in
    ap (flat_map shown_char) one ∙ append-nil (shown_char c)

-- a character that is seen is shown as it is
pub shown-as-it-is : (c : ℕ) → is_unseen c ≡ false → shown_char c ≡ encode_utf8 c
shown-as-it-is c h = as-it-is c h

plain : (b : ℕ) (bs : List ℕ) → is_special b ≡ false → escaped bs ≡ bs → escaped (b ∷ bs) ≡ b ∷ bs
plain b bs h rest = ap₂ (λ (xs ys : List ℕ). xs ++ ys) (plain-byte b h) rest

digit_is_plain : (d : ℕ) → d < 16 → is_special (hex_digit d) ≡ false
digit_is_plain d h = grind (arith, nat_tests)

-- the last digit of a number, before a text
with_digit : (n : ℕ) (rest : List ℕ) → escaped rest ≡ rest → escaped (hex_digit (n % 16) ∷ rest) ≡ hex_digit (n % 16) ∷ rest
with_digit n rest h = plain (hex_digit (n % 16)) rest (digit_is_plain (n % 16) (omega arith)) h

-- the last four digits of a number
last_digits : (c : ℕ) → let text = hex_digit (c / 4096 % 16) ∷ hex_digit (c / 256 % 16) ∷ hex_digit (c / 16 % 16) ∷ hex_digit (c % 16) ∷ [] in escaped text ≡ text
last_digits c = with_digit (c / 4096) _ (with_digit (c / 256) _ (with_digit (c / 16) _ (with_digit c [] refl)))

escape_by : (c : ℕ) (short : Bool) → let text = cond short (short_escape c) (long_escape c) in escaped text ≡ text
escape_by c true = plain 92 _ refl (plain 117 _ refl (last_digits c))
escape_by c false =
    plain 92 _ refl
    (plain 85 _ refl
    (with_digit (c / 268435456) _ (with_digit (c / 16777216) _ (with_digit (c / 1048576) _ (with_digit (c / 65536) _ (last_digits c))))))

escape_is_plain : (c : ℕ) → escaped (escape c) ≡ escape c
escape_is_plain c = escape_by c (nat_lt c 65536)

-- a character that no reader sees is shown without special bytes
pub unseen-is-plain : (c : ℕ) → is_unseen c ≡ true → escaped (shown_char c) ≡ shown_char c
unseen-is-plain c h = by (c == 10) (c == 13) (c == 9) (is_unseen c) h
  where
    by : (s t u v : Bool) → v ≡ true
        → let shown = cond s (codes "\\n") (cond t (codes "\\r") (cond u (codes "\\t") (cond v (escape c) (encode_utf8 c)))) in escaped shown ≡ shown
    by true t u v k = refl
    by false true u v k = refl
    by false false true v k = refl
    by false false false true k = escape_is_plain c
    by false false false false k = absurd (cc)
