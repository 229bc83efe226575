-- Lines of schedules are read back.
use Rattle.std.proofs.Common.{◌≡◌, ◌∙◌, ◌<◌, ◌≤◌, ◌+◌, ◌-◌, ◌==◌, ℕ, zero, suc, List, [], ◌∷◌, ◌++◌, true, Some, None, cond, not, nat_lt, length, get_or, take, position, refl, ap, ap₂, arith, length-append, ne_eqb, one-add, ◌≢◌, ◌^◌, append_assoc, codes, sym, subst, subst₂, leb, leb-true}
use Rattle.std.proofs.lemmas.Bool.{and_parts}
use Rattle.std.proofs.lemmas.Bool.Decides.{nat_tests}
use Rattle.std.proofs.lemmas.Str.Parse.{digit_from_value}
use Rattle.std.proofs.Math.Seq.{take-append_seam, drop-append-add}
use Rattle.std.proofs.lemmas.Fmt.{decimal_is_IsNumeral, decimal_nonempty, digits_decimal, digits_value-decimal, length-decimal-le}
use Rattle.std.proofs.lemmas.Str.Parse.{IsNumeralModel, numerals_by_value, tells_all_ascii_digits}
use Rattle.std.specs.Fmt.{decimal}
use Rattle.std.specs.Str.{all_ascii_digits}
use Rattle.std.specs.List.{AllByRecursion, list_all, position_or_len}
use Rattle.iso_record.specs.Texts.{IsShort, event_line, schedule_text}
use Rattle.iso_schedule.specs.Lines.{IsEvent, IsGap, IsNumeral, is_event, writes_enter, writes_leave, writes_shut, writes_step}
use Rattle.iso_schedule.specs.Schedules as S
use Rattle.iso_schedule.specs.Schedules.{HaveEvents, no_line}
use Rattle.iso_standing.specs.declared.event.Event.{Event}
use Rattle.iso_standing.specs.declared.event.Event.TheVariants.{Enter, Leave, Shut, Step}
use Rattle.std.specs.Str.Lines.{lines, strip_carriage_return}
use Rattle.std.specs.Str.Parse.{AllDigits, digits_value}
use Rattle.iso_schedule.proofs.LineLemmas.{lines-first}

-- no byte is a control character
abbrev pub IsPlain : List ℕ → Type 0
IsPlain bs = AllByRecursion (λ b. 32 ≤ b) bs

pub plain_append : (xs ys : List ℕ) → IsPlain xs → IsPlain ys → IsPlain (xs ++ ys)
plain_append [] ys p q = q
plain_append (x ∷ xs) ys p q = (p.0, plain_append xs ys p.1 q)

pub plain_digits : (ds : List ℕ) → AllDigits 10 ds → IsPlain ds
plain_digits [] d = tt
plain_digits (c ∷ cs) d = (omega (arith, digit_from_value c d.0), plain_digits cs d.1)

plain_at : (bs : List ℕ) (i : ℕ) → IsPlain bs → i < length bs → 32 ≤ get_or bs i 0
plain_at [] i p h = absurd (omega arith)
plain_at (b ∷ bs) zero p h = p.0
plain_at (b ∷ bs) (suc i) p h = plain_at bs i p.1 (omega arith)

feed_after : (bs rest : List ℕ) → IsPlain bs → position_or_len (λ b. b == 10) (bs ++ 10 ∷ rest) ≡ length bs
feed_after [] rest p = refl
feed_after (b ∷ bs) rest p =
    ap (λ t. cond (not t) (1 + position_or_len (λ c. c == 10) (bs ++ 10 ∷ rest)) 0) (ne_eqb b 10 (λ e. let h = p.0 in omega arith))
    ∙ ap (λ n. 1 + n) (feed_after bs rest p.1)
    ∙ one-add (length bs)

feed_at : (bs rest : List ℕ) → IsPlain bs → position (λ b. b == 10) (bs ++ 10 ∷ rest) ≡ Some (length bs)
feed_at bs rest p =
    ap (λ n. cond (nat_lt n (length (bs ++ 10 ∷ rest))) (Some n) None) (feed_after bs rest p)
    ∙ ap (λ t. cond t (Some (length bs)) None) within
  where
    within : nat_lt (length bs) (length (bs ++ 10 ∷ rest)) ≡ true
    within = let e = length-append bs (10 ∷ rest) in grind (arith, nat_tests)

no_return : (bs : List ℕ) → IsPlain bs → strip_carriage_return bs ≡ bs
no_return [] p = refl
no_return (b ∷ bs) p =
    let h = plain_at (b ∷ bs) (length (b ∷ bs) - 1) p (omega arith) in
    ap (λ t. cond t (take (length (b ∷ bs) - 1) (b ∷ bs)) (b ∷ bs)) (ne_eqb (get_or (b ∷ bs) (length (b ∷ bs) - 1) 0) 13 (λ e. omega arith))

pub plain_line : (bs rest : List ℕ) → IsPlain bs → lines (bs ++ 10 ∷ rest) ≡ bs ∷ lines rest
plain_line bs rest p =
    lines-first (bs ++ 10 ∷ rest) (length bs) (feed_at bs rest p)
    ∙ ap₂ (λ a c. strip_carriage_return a ∷ lines c) (take-append_seam bs (10 ∷ rest)) (drop-append-add bs (10 ∷ rest) 1)
    ∙ ap (λ a. a ∷ lines rest) (no_return bs p)

own : IsNumeralModel (λ ds. all_ascii_digits ds ≡ true) (digits_value 10)
own = numerals_by_value _ tells_all_ascii_digits

-- a number of at most nine digits, as it is written
pub record IsWritten (n : ℕ) : Type 0 where
  pub plain : IsPlain (decimal n)
  pub some : decimal n ≢ []
  pub digits : all_ascii_digits (decimal n) ≡ true
  pub value : digits_value 10 (decimal n) ≡ n
  pub few : length (decimal n) ≤ 9

pub number_written : (n : ℕ) → n < 10 ^ 9 → IsWritten n
number_written n short =
    let fits : n < 2 ^ 64 = omega arith in
    record {
      plain = plain_digits (decimal n) (decimal_is_IsNumeral n fits).0.1;
      some = λ e. let h = decimal_nonempty n fits in let z : length (decimal n) ≡ 0 = ap length e in omega arith;
      digits = digits_decimal own n fits;
      value = digits_value-decimal own n fits;
      few = length-decimal-le 9 n (omega arith) short fits;
    }

-- each line without its line feed
abbrev pub words : Event → List ℕ
words (Enter w n) = codes "enter " ++ decimal w ++ codes " " ++ decimal n
words (Step w) = codes "step " ++ decimal w
words (Leave w) = codes "leave " ++ decimal w
words (Shut w n) = codes "shut " ++ decimal w ++ codes " " ++ decimal n

line_is : (e : Event) → words e ++ 10 ∷ [] ≡ event_line e
line_is (Enter w n) = refl
line_is (Step w) = refl
line_is (Leave w) = refl
line_is (Shut w n) = refl

-- a line, and those after it
line_then : (e : Event) (rest : List ℕ) → event_line e ++ rest ≡ words e ++ 10 ∷ rest
line_then e rest = ap (λ (t : List ℕ). t ++ rest) (sym (line_is e)) ∙ append_assoc (words e) (10 ∷ []) rest

plain_from : (bs : List ℕ) → list_all (λ b. leb 32 b) bs ≡ true → IsPlain bs
plain_from [] e = tt
plain_from (b ∷ bs) e = let p = and_parts (leb 32 b) (list_all (λ c. leb 32 c) bs) e in (leb-true 32 b p.0, plain_from bs p.1)

plain_worker : (word : List ℕ) (w : ℕ) → list_all (λ b. leb 32 b) word ≡ true → w < 10 ^ 9 → IsPlain (word ++ decimal w)
plain_worker word w e short = plain_append word (decimal w) (plain_from word e) (number_written w short).plain

plain_node : (word : List ℕ) (w n : ℕ) → list_all (λ b. leb 32 b) word ≡ true → w < 10 ^ 9 → n < 10 ^ 9 → IsPlain (word ++ decimal w ++ codes " " ++ decimal n)
plain_node word w n e short low =
    plain_append (word ++ decimal w ++ codes " ") (decimal n)
    (plain_append (word ++ decimal w) (codes " ") (plain_worker word w e short) (plain_from (codes " ") refl)) (number_written n low).plain

plain_words : (e : Event) → IsShort e → IsPlain (words e)
plain_words (Enter w n) s = plain_node (codes "enter ") w n refl s.0 s.1
plain_words (Step w) s = plain_worker (codes "step ") w refl s
plain_words (Leave w) s = plain_worker (codes "leave ") w refl s
plain_words (Shut w n) s = plain_node (codes "shut ") w n refl s.0 s.1

spaced : (word ds es : List ℕ) → word ++ ds ++ codes " " ++ es ≡ word ++ (ds ++ (codes " " ++ es))
spaced word ds es = append_assoc (word ++ ds) (codes " ") es ∙ append_assoc word ds (codes " " ++ es)

gap : IsGap (codes " ")
gap = ((λ e. absurd cc), (refl, tt))

numeral : (n : ℕ) → n < 10 ^ 9 → IsNumeral (decimal n)
numeral n short = let h = number_written n short in (h.some, h.digits)

-- a line is the event that it was written for
words_read : (e : Event) → IsShort e → IsEvent (words e) e
words_read (Enter w n) s =
    let line = words (Enter w n) in
    let a = number_written w s.0 in
    let b = number_written n s.1 in
    subst₂ (λ (i j : ℕ). IsEvent line (Enter i j)) a.value b.value
    (is_event (writes_enter (codes " ") (codes " ") (spaced (codes "enter ") (decimal w) (decimal n)) gap (numeral w s.0) gap (numeral n s.1)) (a.few, b.few))
words_read (Step w) s =
    let a = number_written w s in
    subst (λ (i : ℕ). IsEvent (words (Step w)) (Step i)) a.value (is_event (writes_step (codes " ") refl gap (numeral w s)) a.few)
words_read (Leave w) s =
    let a = number_written w s in
    subst (λ (i : ℕ). IsEvent (words (Leave w)) (Leave i)) a.value (is_event (writes_leave (codes " ") refl gap (numeral w s)) a.few)
words_read (Shut w n) s =
    let line = words (Shut w n) in
    let a = number_written w s.0 in
    let b = number_written n s.1 in
    subst₂ (λ (i j : ℕ). IsEvent line (Shut i j)) a.value b.value
    (is_event (writes_shut (codes " ") (codes " ") (spaced (codes "shut ") (decimal w) (decimal n)) gap (numeral w s.0) gap (numeral n s.1)) (a.few, b.few))

pub events_read : (es : List Event) → AllByRecursion IsShort es → HaveEvents (lines (schedule_text es)) es
events_read [] s = no_line
events_read (e ∷ es) s =
    subst (λ (ls : List (List ℕ)). HaveEvents ls (e ∷ es))
    (sym (ap lines (line_then e (schedule_text es)) ∙ plain_line (words e) (schedule_text es) (plain_words e s.0)))
    (S.event_line (words_read e s.0) (events_read es s.1))
