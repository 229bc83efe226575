-- The characters of what is shown of a name: each is seen.
use Rattle.std.proofs.Common.{◌≡◌, ◌<◌, ◌≤◌, ℕ, ◌+◌, ◌/◌, ◌%◌, List, [], ◌∷◌, ◌++◌, Bool, true, false, ◌||◌, ◌==◌, nat_lt, cond, codes, IsUtf8, refl, sym, ap, ap₂, subst, ◌∙◌, append-nil, arith}
use Rattle.std.proofs.lemmas.Bool.{and_parts}
use Rattle.std.proofs.lemmas.Bool.Decides.{nat_tests}
use Rattle.std.proofs.lemmas.List.Folds.{list_any-append}
use Rattle.std.proofs.lemmas.Str.{IsUtf8-append, IsUtf8-encode, IsUtf8-nil, chars-append, chars-nil, chars_past_char, encode_ascii, encodes-chars, scalars-chars}
use Rattle.std.proofs.Math.Utf8.{encodes, scalars}
use Rattle.std.specs.Char.{IsScalar, encode_utf8}
use Rattle.std.specs.List.{flat_map, list_any}
use Rattle.std.specs.Str.{chars}
use Rattle.iso_summary.specs.Names.{escape, hex_digit, long_escape, short_escape, shown_char, shown_name}
use Rattle.iso_summary.specs.Unseen.{has_unseen, is_unseen}
use Rattle.iso_summary.proofs.UnseenLemmas.{ascii-is-seen, control-is-unseen, seen-is-no-control}

-- a text whose characters are all seen
record IsPlain (text : List ℕ) : Type 0 where
  spelled : IsUtf8 text
  none : has_unseen text ≡ false

plain_nil : IsPlain []
plain_nil = record { spelled = IsUtf8-nil; none = ap (list_any is_unseen) chars-nil }

plain_append : (first then : List ℕ) → IsPlain first → IsPlain then → IsPlain (first ++ then)
plain_append first then p q =
    record {
      spelled = IsUtf8-append first then p.spelled q.spelled;
      none =
          ap (list_any is_unseen) (chars-append first then p.spelled)
          ∙ list_any-append is_unseen (chars first) (chars then)
          ∙ ap₂ (λ (a b : Bool). a || b) p.none q.none;
    }

-- a character by itself
plain_char : (c : ℕ) → IsScalar c → is_unseen c ≡ false → IsPlain (encode_utf8 c)
plain_char c scalar h =
    let text = IsUtf8-encode c scalar in
    let one = chars_past_char (encode_utf8 c) [] c text (sym (append-nil (encode_utf8 c))) ∙ ap (λ (cs : List ℕ). c ∷ cs) chars-nil in
    record { spelled = text; none = ap (list_any is_unseen) one ∙ ap (λ (b : Bool). b || false) h }

low : (c : ℕ) → c < 128 → IsScalar c
low c h = grind (arith, nat_tests)

plain_ascii : (c : ℕ) (rest : List ℕ) → 32 ≤ c → c < 127 → IsPlain rest → IsPlain (c ∷ rest)
plain_ascii c rest from to p =
    let seen = ascii-is-seen c from to in
    plain_append (c ∷ []) rest (subst IsPlain (encode_ascii c (omega arith)) (plain_char c (low c (omega arith)) seen)) p

record IsDigit (d : ℕ) : Type 0 where
  from : 32 ≤ d
  to : d < 127

digit : (d : ℕ) → d < 16 → IsDigit (hex_digit d)
digit d h = by (nat_lt d 10) refl
  where
    by : (t : Bool) → nat_lt d 10 ≡ t → IsDigit (cond t (48 + d) (55 + d))
    by true e = record { from = omega arith; to = grind (arith, nat_tests) }
    by false e = record { from = omega arith; to = omega arith }

-- the last digit of a number, before a text
with_digit : (n : ℕ) (rest : List ℕ) → IsPlain rest → IsPlain (hex_digit (n % 16) ∷ rest)
with_digit n rest p = let d = digit (n % 16) (omega arith) in plain_ascii (hex_digit (n % 16)) rest d.from d.to p

plain_digits : (c : ℕ) → IsPlain (hex_digit (c / 4096 % 16) ∷ hex_digit (c / 256 % 16) ∷ hex_digit (c / 16 % 16) ∷ hex_digit (c % 16) ∷ [])
plain_digits c = with_digit (c / 4096) _ (with_digit (c / 256) _ (with_digit (c / 16) _ (with_digit c [] plain_nil)))

plain_escape : (c : ℕ) → IsPlain (escape c)
plain_escape c = by (nat_lt c 65536)
  where
    by : (short : Bool) → IsPlain (cond short (short_escape c) (long_escape c))
    by true = plain_ascii 92 _ (omega arith) (omega arith) (plain_ascii 117 _ (omega arith) (omega arith) (plain_digits c))
    by false =
        plain_ascii 92 _ (omega arith) (omega arith)
        (plain_ascii 85 _ (omega arith) (omega arith)
        (with_digit (c / 268435456) _
        (with_digit (c / 16777216) _ (with_digit (c / 1048576) _ (with_digit (c / 65536) _ (plain_digits c))))))

plain_named : (letter : ℕ) → 32 ≤ letter → letter < 127 → IsPlain (92 ∷ letter ∷ [])
plain_named letter from to = plain_ascii 92 _ (omega arith) (omega arith) (plain_ascii letter _ from to plain_nil)

plain_shown : (c : ℕ) → IsScalar c → IsPlain (shown_char c)
plain_shown c scalar = by (c == 10) (c == 13) (c == 9) (is_unseen c) refl
  where
    by : (s t u v : Bool) → is_unseen c ≡ v
        → IsPlain (cond s (codes "\\n") (cond t (codes "\\r") (cond u (codes "\\t") (cond v (escape c) (encode_utf8 c)))))
    by true t u v e = plain_named 110 (omega arith) (omega arith)
    by false true u v e = plain_named 114 (omega arith) (omega arith)
    by false false true v e = plain_named 116 (omega arith) (omega arith)
    by false false false true e = plain_escape c
    by false false false false e = plain_char c scalar e

all_plain : (cs : List ℕ) → scalars cs ≡ true → IsPlain (flat_map shown_char cs)
all_plain [] h = plain_nil
all_plain (c ∷ cs) h =
    let are = and_parts _ _ h in
    plain_append (shown_char c) (flat_map shown_char cs) (plain_shown c are.0) (all_plain cs are.1)

pub name-is-plain : (name : List ℕ) → IsUtf8 name → has_unseen (shown_name name) ≡ false
name-is-plain name text = let p = all_plain (chars name) (scalars-chars name text) in p.none

-- a character that is seen is shown as it is
pub as-it-is : (c : ℕ) → is_unseen c ≡ false → shown_char c ≡ encode_utf8 c
as-it-is c h =
    let none = seen-is-no-control c h in
    let feed : (c == 10) ≡ false = grind (arith, nat_tests) in
    let return : (c == 13) ≡ false = grind (arith, nat_tests) in
    let tab : (c == 9) ≡ false = grind (arith, nat_tests) in
    rw (feed, return, tab, h) refl

or_parts : (a b : Bool) → (a || b) ≡ false → (a ≡ false) × (b ≡ false)
or_parts true b h = absurd (cc)
or_parts false b h = (refl, h)

all_as_they_are : (cs : List ℕ) → list_any is_unseen cs ≡ false → flat_map shown_char cs ≡ encodes cs
all_as_they_are [] h = refl
all_as_they_are (c ∷ cs) h =
    let none = or_parts _ _ h in
    ap₂ (λ (xs ys : List ℕ). xs ++ ys) (as-it-is c none.0) (all_as_they_are cs none.1)

pub plain-as-it-stands : (word : List ℕ) → IsUtf8 word → has_unseen word ≡ false → shown_name word ≡ word
plain-as-it-stands word text h = all_as_they_are (chars word) h ∙ encodes-chars word text
