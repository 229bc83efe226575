-- Notes are lines of printable bytes.
use Rattle.std.proofs.Common.{◌≡◌, ◌<◌, ◌^◌, ℕ, zero, suc, ◌+◌, ◌%◌, List, [], ◌∷◌, ◌++◌, Bool, true, false, ◌&&◌, ◌==◌, cond, map, codes, refl, ap, ap₂, sym, subst, ◌∙◌, append_assoc, append-nil, arith}
use Rattle.std.proofs.lemmas.Bool.Decides.{nat_tests}
use Rattle.std.proofs.lemmas.Fmt.{decimal_by_steps}
use Rattle.std.proofs.lemmas.List.Folds.{list_all-append}
use Rattle.std.specs.Fmt.{decimal}
use Rattle.std.specs.Int.{is_in_range}
use Rattle.std.specs.List.{list_all}
use Rattle.iso_hints.specs.Pictures.{shown_byte}
use Rattle.iso_summary.specs.Lines.{line}
use Rattle.iso_explain_plan.specs.Notes.{note}
use Rattle.iso_explain_plan.specs.Parts.{shown}
use Rattle.iso_explain_plan.specs.Printable.{AreLines, ArePrintable, IsPrintable, next_line, no_line}

pub printable-append : (s t : List ℕ) → IsPrintable s → IsPrintable t → IsPrintable (s ++ t)
printable-append s t h k = list_all-append (is_in_range 32 126) s t ∙ ap₂ (λ (a b : Bool). a && b) h k

digit_is_printable : (d : ℕ) → d < 10 → is_in_range 32 126 (48 + d) ≡ true
digit_is_printable d h = grind (arith, nat_tests)

pub decimal-is-printable : (n : ℕ) → n < 2 ^ 64 → IsPrintable (decimal n)
decimal-is-printable n h =
    decimal_by_steps (λ n ds. IsPrintable ds) (λ n h. rw (digit_is_printable n h) refl)
    (λ n ds h k. printable-append ds ((48 + n % 10) ∷ []) k (rw (digit_is_printable (n % 10) (omega arith)) refl)) n h

byte_is_printable : (b : ℕ) → is_in_range 32 126 (shown_byte b) ≡ true
byte_is_printable b = by (b == 9) (is_in_range 32 126 b) refl
  where
    by : (s t : Bool) → is_in_range 32 126 b ≡ t → is_in_range 32 126 (cond s 32 (cond t b 63)) ≡ true
    by true t e = refl
    by false true e = e
    by false false e = refl

pub shown-is-printable : (text : List ℕ) → IsPrintable (shown text)
shown-is-printable [] = refl
shown-is-printable (b ∷ bs) = ap₂ (λ (s t : Bool). s && t) (byte_is_printable b) (shown-is-printable bs)

line_ends : (front : List ℕ) (texts : List (List ℕ)) → IsPrintable front → ArePrintable texts → AreLines 1 (front ++ line texts)
line_ends front [] h k = next_line front h no_line
line_ends front (t ∷ ts) h k =
    subst (λ (text : List ℕ). AreLines 1 text) (append_assoc front t (line ts)) (line_ends (front ++ t) ts (printable-append front t h k.0) k.1)

-- a note of printable texts is a line
pub note-is-line : (texts : List (List ℕ)) → ArePrintable texts → AreLines 1 (note texts)
note-is-line texts h = line_ends (codes " = ") texts refl h

-- lines behind lines
pub lines-append : {m n : ℕ} {s t : List ℕ} → AreLines m s → AreLines n t → AreLines (m + n) (s ++ t)
lines-append {n = n} {t = t} no_line k = let same : n ≡ 0 + n = omega arith in subst (λ (c : ℕ). AreLines c t) same k
lines-append {n = n} {t = t} (next_line {n = m} {t = s} l h more) k =
    let count : (m + n) + 1 ≡ (m + 1) + n = omega arith in
    subst (λ (c : ℕ). AreLines c ((l ++ 10 ∷ s) ++ t)) count
    (subst (λ (text : List ℕ). AreLines (m + n + 1) text) (sym (append_assoc l (10 ∷ s) t)) (next_line l h (lines-append more k)))
