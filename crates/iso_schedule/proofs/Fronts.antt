-- Words, gaps and numerals at the front of bytes.
use Rattle.std.proofs.Common.{◌≡◌, ◌∙◌, ℕ, List, [], ◌∷◌, ◌++◌, Option, Some, None, option_map, Bool, true, false, length, take, drop, refl, sym, ap, subst, arith, append-nil}
use Rattle.std.proofs.lemmas.Bool.{and_parts}
use Rattle.std.proofs.lemmas.Bool.Decides.{nat_tests}
use Rattle.std.proofs.lemmas.List.{take_at, drop_at, take-append-drop}
use Rattle.std.specs.Char.{is_ascii_digit}
use Rattle.std.specs.List.{prefix_len, AllByRecursion}
use Rattle.std.specs.Str.{all_ascii_digits}
use Rattle.iso_script_lexer.proofs.Prefixes.{All-take-prefix_len, prefix_len-append}
use Rattle.iso_script_lexer.specs.LexicalGrammar.{Ends}
use Rattle.iso_schedule.specs.Lines.{IsGap, IsNumeral}
use Rattle.iso_schedule.specs.Scan.{Front, is_space, in_word, then_try, word_at, after_gap, numeral_of, numeral_front, numeral_at, at_end, last_numeral}

abbrev pub AllPass : (ℕ → Bool) → List ℕ → Type 0
AllPass p bs = AllByRecursion (λ b. p b ≡ true) bs

-- a word is what stands before the first space
pub word_at-append : (word rest : List ℕ) → AllPass in_word word → Ends in_word rest → word_at (word ++ rest) ≡ (word, rest)
word_at-append word rest all end =
    let n : prefix_len in_word (word ++ rest) ≡ length word = prefix_len-append in_word word rest all end in
    λ i. ((ap (λ k. take k (word ++ rest)) n ∙ take_at word rest (length word) refl) i, (ap (λ k. drop k (word ++ rest)) n ∙ drop_at word rest (length word) refl) i)

pub word_at-parts : (bs : List ℕ) → bs ≡ (word_at bs).0 ++ (word_at bs).1
word_at-parts bs = sym (take-append-drop (prefix_len in_word bs) bs)

space-is_space : (b : ℕ) → b ≡ 32 → is_space b ≡ true
space-is_space b e = rw e refl

is_space-space : (b : ℕ) → is_space b ≡ true → b ≡ 32
is_space-space b e = grind (arith, nat_tests)

spaces-pass : (bs : List ℕ) → AllByRecursion (λ b. b ≡ 32) bs → AllPass is_space bs
spaces-pass [] all = tt
spaces-pass (b ∷ bs) all = (space-is_space b all.0, spaces-pass bs all.1)

passing-spaces : (bs : List ℕ) → AllPass is_space bs → AllByRecursion (λ b. b ≡ 32) bs
passing-spaces [] all = tt
passing-spaces (b ∷ bs) all = (is_space-space b all.0, passing-spaces bs all.1)

pub after_gap-append : (gap rest : List ℕ) → IsGap gap → Ends is_space rest → after_gap (gap ++ rest) ≡ Some rest
after_gap-append [] rest g end = absurd (g.0 refl)
after_gap-append (b ∷ bs) rest g end =
    let n : prefix_len is_space (bs ++ rest) ≡ length bs = prefix_len-append is_space bs rest (spaces-pass bs g.1.1) end in
    rw (space-is_space b g.1.0) (ap Some (ap (λ k. drop k (bs ++ rest)) n ∙ drop_at bs rest (length bs) refl))

-- bytes that begin with a gap
pub record HasGap (bs rest : List ℕ) : Type 0 where
  pub gap : List ℕ
  pub is : IsGap gap
  pub parts : bs ≡ gap ++ rest

pub after_gap-parts : (bs rest : List ℕ) → after_gap bs ≡ Some rest → HasGap bs rest
after_gap-parts [] rest e = cc
after_gap-parts (b ∷ bs) rest e = go (is_space b) refl
  where
    go : (t : Bool) → is_space b ≡ t → HasGap (b ∷ bs) rest
    go true s =
        let n : ℕ = prefix_len is_space bs in
        let f : drop n bs ≡ rest = let h = rw s at e in cc in
        record {
          gap = b ∷ take n bs;
          is = (λ h. cc, (is_space-space b s, passing-spaces _ (All-take-prefix_len is_space bs)));
          parts = ap (λ cs. b ∷ cs) (sym (take-append-drop n bs) ∙ ap (λ cs. take n bs ++ cs) f);
        }
    go false s = let h = rw s at e in cc

digit-in_word : (b : ℕ) → is_ascii_digit b ≡ true → in_word b ≡ true
digit-in_word b e = grind (arith, nat_tests)

digit-is_space : (b : ℕ) → is_ascii_digit b ≡ true → is_space b ≡ false
digit-is_space b e = grind (arith, nat_tests)

digits-in_word : (bs : List ℕ) → all_ascii_digits bs ≡ true → AllPass in_word bs
digits-in_word [] h = tt
digits-in_word (b ∷ bs) h = let p = and_parts (is_ascii_digit b) (all_ascii_digits bs) h in (digit-in_word b p.0, digits-in_word bs p.1)

numeral-ends_gap : (w rest : List ℕ) → IsNumeral w → Ends is_space (w ++ rest)
numeral-ends_gap [] rest n = absurd (n.0 refl)
numeral-ends_gap (b ∷ bs) rest n = digit-is_space b (and_parts (is_ascii_digit b) (all_ascii_digits bs) n.1).0

numeral_of-numeral : (w : List ℕ) → IsNumeral w → numeral_of w ≡ Some w
numeral_of-numeral [] n = absurd (n.0 refl)
numeral_of-numeral (b ∷ bs) n = rw n.1 refl

numeral_of-is : (word w : List ℕ) → numeral_of word ≡ Some w → (word ≡ w) × IsNumeral w
numeral_of-is [] w e = cc
numeral_of-is (b ∷ bs) w e = go (all_ascii_digits (b ∷ bs)) refl
  where
    go : (t : Bool) → all_ascii_digits (b ∷ bs) ≡ t → ((b ∷ bs) ≡ w) × IsNumeral w
    go true d = let same : (b ∷ bs) ≡ w = let h = rw d at e in cc in (same, subst IsNumeral same (λ h. cc, d))
    go false d = let h = rw d at e in cc

-- a gap and a numeral are read
pub numeral_at-append : (gap w rest : List ℕ) → IsGap gap → IsNumeral w → Ends in_word rest → numeral_at (gap ++ (w ++ rest)) ≡ Some (w, rest)
numeral_at-append gap w rest g n end =
    ap (λ o. then_try o (λ cs. numeral_front (word_at cs))) (after_gap-append gap (w ++ rest) g (numeral-ends_gap w rest n))
    ∙ ap numeral_front (word_at-append w rest (digits-in_word w n.1) end)
    ∙ ap (option_map (λ digits. (digits, rest))) (numeral_of-numeral w n)

pub last_numeral-append : (gap w : List ℕ) → IsGap gap → IsNumeral w → last_numeral (gap ++ w) ≡ Some w
last_numeral-append gap w g n =
    let e : numeral_at (gap ++ (w ++ [])) ≡ Some (w, []) = numeral_at-append gap w [] g n tt in
    let f : numeral_at (gap ++ w) ≡ Some (w, []) = rw append-nil at e in
    rw f refl

-- what was read is a gap and a numeral
pub record HasNumeral (bs w rest : List ℕ) : Type 0 where
  pub gap : List ℕ
  pub is_gap : IsGap gap
  pub is_numeral : IsNumeral w
  pub parts : bs ≡ gap ++ (w ++ rest)

-- the first of two steps, and what the second makes of it
pub record Steps {A B : Type 0} (o : Option A) (f : A → Option B) (y : B) : Type 0 where
  pub value : A
  pub first : o ≡ Some value
  pub second : f value ≡ Some y

pub then_try-steps : {A B : Type 0} (o : Option A) (f : A → Option B) (y : B) → then_try o f ≡ Some y → Steps o f y
then_try-steps None f y e = cc
then_try-steps (Some x) f y e = record { value = x; first = refl; second = e }

-- the value that was mapped
pub record Mapped {A B : Type 0} (f : A → B) (o : Option A) (y : B) : Type 0 where
  pub value : A
  pub from : o ≡ Some value
  pub is : f value ≡ y

pub option_map-mapped : {A B : Type 0} (f : A → B) (o : Option A) (y : B) → option_map f o ≡ Some y → Mapped f o y
option_map-mapped f None y e = cc
option_map-mapped f (Some x) y e = record { value = x; from = refl; is = cc }

pub numeral_at-parts : (bs : List ℕ) (f : Front (List ℕ)) → numeral_at bs ≡ Some f → HasNumeral bs f.0 f.1
numeral_at-parts bs f e =
    let s = then_try-steps (after_gap bs) (λ cs. numeral_front (word_at cs)) f e in
    let g = after_gap-parts bs s.value s.first in
    let m = option_map-mapped (λ digits. (digits, (word_at s.value).1)) (numeral_of (word_at s.value).0) f s.second in
    let d = numeral_of-is (word_at s.value).0 m.value m.from in
    let same : m.value ≡ f.0 = ap (λ p. p.0) m.is in
    let after : (word_at s.value).1 ≡ f.1 = ap (λ p. p.1) m.is in
    record {
      gap = g.gap;
      is_gap = g.is;
      is_numeral = subst IsNumeral same d.1;
      parts = g.parts ∙ ap (λ cs. g.gap ++ cs) (word_at-parts s.value ∙ (λ i. (d.0 ∙ same) i ++ after i));
    }

at_end-is : {A : Type 0} (x y : A) (bs : List ℕ) → at_end x bs ≡ Some y → (x ≡ y) × (bs ≡ [])
at_end-is x y [] e = (cc, refl)
at_end-is x y (b ∷ bs) e = cc

pub last_numeral-parts : (bs w : List ℕ) → last_numeral bs ≡ Some w → HasNumeral bs w []
last_numeral-parts bs w e =
    let s = then_try-steps (numeral_at bs) (λ f. at_end f.0 f.1) w e in
    let n = numeral_at-parts bs s.value s.first in
    let d = at_end-is s.value.0 w s.value.1 s.second in
    record {
      gap = n.gap;
      is_gap = n.is_gap;
      is_numeral = subst IsNumeral d.0 n.is_numeral;
      parts = n.parts ∙ ap (λ cs. n.gap ++ cs) (λ i. d.0 i ++ d.1 i);
    }
