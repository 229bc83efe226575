-- The characters of what is told of a file's name: XML allows each.
use Rattle.std.proofs.Common.{◌≡◌, ◌<◌, ◌≤◌, ℕ, ◌+◌, ◌/◌, ◌%◌, List, [], ◌∷◌, ◌++◌, Bool, true, false, ◌&&◌, ◌==◌, nat_lt, cond, codes, refl, sym, ap, ap₂, subst, ◌∙◌, append-nil, arith}
use Rattle.std.proofs.lemmas.Bool.{and_parts}
use Rattle.std.proofs.lemmas.Bool.Decides.{nat_tests}
use Rattle.std.proofs.lemmas.List.Folds.{list_all-append}
use Rattle.std.proofs.lemmas.Str.{IsUtf8-append, IsUtf8-encode, IsUtf8-nil, chars-append, chars-nil, chars_past_char, encode_ascii, scalars-chars}
use Rattle.std.proofs.Math.Utf8.{scalars}
use Rattle.std.specs.Char.{IsScalar, encode_utf8}
use Rattle.std.specs.List.{flat_map, list_all}
use Rattle.std.specs.Str.{IsUtf8, chars}
use Rattle.iso_summary.specs.Names.{escape, hex_digit, long_escape, short_escape}
use Rattle.iso_summary.specs.Unseen.{is_unseen}
use Rattle.iso_summary.proofs.UnseenLemmas.{seen-is-no-control}
use Rattle.iso_junit.specs.Files.{file_char, file_name, is_allowed}

-- a text whose characters are all allowed
record IsFit (text : List ℕ) : Type 0 where
  spelled : IsUtf8 text
  all : list_all is_allowed (chars text) ≡ true

fit_nil : IsFit []
fit_nil = record { spelled = IsUtf8-nil; all = ap (list_all is_allowed) chars-nil }

fit_append : (first then : List ℕ) → IsFit first → IsFit then → IsFit (first ++ then)
fit_append first then p q =
    record {
      spelled = IsUtf8-append first then p.spelled q.spelled;
      all =
          ap (list_all is_allowed) (chars-append first then p.spelled)
          ∙ list_all-append is_allowed (chars first) (chars then)
          ∙ ap₂ (λ (a b : Bool). a && b) p.all q.all;
    }

-- a character by itself
fit_char : (c : ℕ) → IsScalar c → is_allowed c ≡ true → IsFit (encode_utf8 c)
fit_char c scalar h =
    let text = IsUtf8-encode c scalar in
    let one = chars_past_char (encode_utf8 c) [] c text (sym (append-nil (encode_utf8 c))) ∙ ap (λ (cs : List ℕ). c ∷ cs) chars-nil in
    record { spelled = text; all = ap (list_all is_allowed) one ∙ ap (λ (b : Bool). b && true) h }

low : (c : ℕ) → c < 128 → IsScalar c
low c h = grind (arith, nat_tests)

fit_ascii : (c : ℕ) (rest : List ℕ) → 32 ≤ c → c < 127 → IsFit rest → IsFit (c ∷ rest)
fit_ascii c rest from to p =
    let allowed : is_allowed c ≡ true = grind (arith, nat_tests) in
    fit_append (c ∷ []) rest (subst IsFit (encode_ascii c (omega arith)) (fit_char c (low c (omega arith)) allowed)) p

record IsDigit (d : ℕ) : Type 0 where
  from : 32 ≤ d
  to : d < 127

digit : (d : ℕ) → d < 16 → IsDigit (hex_digit d)
digit d h = by (nat_lt d 10) refl
  where
    by : (t : Bool) → nat_lt d 10 ≡ t → IsDigit (cond t (48 + d) (55 + d))
    by true e = record { from = omega arith; to = grind (arith, nat_tests) }
    by false e = record { from = omega arith; to = omega arith }

-- the last digit of a number, before a text
with_digit : (n : ℕ) (rest : List ℕ) → IsFit rest → IsFit (hex_digit (n % 16) ∷ rest)
with_digit n rest p = let d = digit (n % 16) (omega arith) in fit_ascii (hex_digit (n % 16)) rest d.from d.to p

fit_digits : (c : ℕ) → IsFit (hex_digit (c / 4096 % 16) ∷ hex_digit (c / 256 % 16) ∷ hex_digit (c / 16 % 16) ∷ hex_digit (c % 16) ∷ [])
fit_digits c = with_digit (c / 4096) _ (with_digit (c / 256) _ (with_digit (c / 16) _ (with_digit c [] fit_nil)))

fit_escape : (c : ℕ) → IsFit (escape c)
fit_escape c = by (nat_lt c 65536)
  where
    by : (short : Bool) → IsFit (cond short (short_escape c) (long_escape c))
    by true = fit_ascii 92 _ (omega arith) (omega arith) (fit_ascii 117 _ (omega arith) (omega arith) (fit_digits c))
    by false =
        fit_ascii 92 _ (omega arith) (omega arith)
        (fit_ascii 85 _ (omega arith) (omega arith)
        (with_digit (c / 268435456) _ (with_digit (c / 16777216) _ (with_digit (c / 1048576) _ (with_digit (c / 65536) _ (fit_digits c))))))

-- the two that XML doesn't allow, by their escapes
fit_last : (c : ℕ) → (nat_lt c 65536) ≡ true → IsFit (short_escape c)
fit_last c h = subst (λ (b : Bool). IsFit (cond b (short_escape c) (long_escape c))) h (fit_escape c)

fit_named : (letter : ℕ) → 32 ≤ letter → letter < 127 → IsFit (92 ∷ letter ∷ [])
fit_named letter from to = fit_ascii 92 _ (omega arith) (omega arith) (fit_ascii letter _ from to fit_nil)

fit_shown : (c : ℕ) → IsScalar c → IsFit (file_char c)
fit_shown c scalar = by (c == 65534) (c == 65535) (c == 10) (c == 13) (c == 9) (is_unseen c) refl refl refl
  where
    by : (p q s t u v : Bool) → (c == 65534) ≡ p → (c == 65535) ≡ q → is_unseen c ≡ v
        → IsFit (cond p (codes "\\uFFFE") (cond q (codes "\\uFFFF") (cond s (codes "\\n") (cond t (codes "\\r") (cond u (codes "\\t") (cond v (escape c) (encode_utf8 c)))))))
    by true q s t u v e f g = fit_last 65534 refl
    by false true s t u v e f g = fit_last 65535 refl
    by false false true t u v e f g = fit_named 110 (omega arith) (omega arith)
    by false false false true u v e f g = fit_named 114 (omega arith) (omega arith)
    by false false false false true v e f g = fit_named 116 (omega arith) (omega arith)
    by false false false false false true e f g = fit_escape c
    by false false false false false false e f g =
        let none = seen-is-no-control c g in
        let allowed : is_allowed c ≡ true = grind (arith, nat_tests) in
        fit_char c scalar allowed

all_fit : (cs : List ℕ) → scalars cs ≡ true → IsFit (flat_map file_char cs)
all_fit [] h = fit_nil
all_fit (c ∷ cs) h =
    let are = and_parts _ _ h in
    fit_append (file_char c) (flat_map file_char cs) (fit_shown c are.0) (all_fit cs are.1)

pub names-are-allowed : (name : List ℕ) → IsUtf8 name → list_all is_allowed (chars (file_name name)) ≡ true
names-are-allowed name text = let p = all_fit (chars name) (scalars-chars name text) in p.all
