-- Reserved words.
use Rattle.std.proofs.Common.{◌≡◌, ◌≢◌, ℕ, List, [], ◌∷◌, length, Bool, true, false, cond, Some, None, refl, ap, sym, ◌∙◌, subst, inl, inr, ◌<◌, ◌≤◌, arith, nat_eq, nat_lt, nat_le, ◌||◌, ◌&&◌, Option, if◌then◌else◌, rules}
use Rattle.std.proofs.lemmas.Bool.Decides.{nat_tests}
use Rattle.std.proofs.lemmas.Slice.Eq.{bytes_eq-Decides}
use Rattle.std.specs.List.{find}
use Rattle.std.specs.Str.{bytes_eq}
use Rattle.iso_script_lexer.specs.Spelling.{spelling, word_of, all_words, begins, begins_in}
use Rattle.iso_script_lexer.specs.LexicalGrammar.{IsIdentifier}
use Rattle.iso_script_lexer.specs.declared.word.Word.{Word}
use Rattle.iso_script_lexer.specs.declared.word.Word.TheVariants.{Team}
use Rattle.iso_script_lexer.proofs.Decisions.{chosen, equal}

pub word_of-spelling : (w : Word) → word_of (spelling w) ≡ Some w
unfolding word_of
word_of-spelling Team = refl
word_of-spelling _ = refl

-- a name that is written as a reserved word is that word
pub spelled : (w : Word) (n : List ℕ) → n ≡ spelling w → Some w ≡ word_of n
spelled w n is = sym (ap word_of is ∙ word_of-spelling w)

pub spelling-IsIdentifier : (w : Word) → IsIdentifier (spelling w) × (nat_le (length (spelling w)) 64 ≡ true)
spelling-IsIdentifier Team = search rules
spelling-IsIdentifier _ = search rules

passes : {A : Type 0} (p : A → Bool) (xs : List A) (x : A) → find p xs ≡ Some x → p x ≡ true
passes p [] x h = cc
passes p (y ∷ xs) x h =
    elim (chosen (p y) (Some y) (find p xs) (Some x) h) [
      | inl w ↦ let e : y ≡ x = cc in subst (λ z. p z ≡ true) e w.0
      | inr w ↦ passes p xs x w.1
    ]

pub spelling-word_of : (n : List ℕ) (w : Word) → word_of n ≡ Some w → spelling w ≡ n
unfolding word_of
spelling-word_of n w h = (bytes_eq-Decides (spelling w) n).0 (passes (λ w. bytes_eq (spelling w) n) all_words w h)

pub not_reserved : (n : List ℕ) → word_of n ≡ None → (w : Word) → spelling w ≢ n
not_reserved n none w is = let e : Some w ≡ None = sym (word_of-spelling w) ∙ ap word_of is ∙ none in cc

-- the words of a list that begin with a byte, and that none of some words is written so
abbrev pub words_on : ℕ → List Word → List Word
words_on b [] = []
words_on b (w ∷ ws) = if begins b (spelling w) then w ∷ words_on b ws else words_on b ws

abbrev pub IsNoneOf : List ℕ → List Word → Type 0
IsNoneOf n [] = Unit {0}
IsNoneOf n (w ∷ ws) = (n ≢ spelling w) × IsNoneOf n ws

differs : (w : Word) (n : List ℕ) → n ≢ spelling w → bytes_eq (spelling w) n ≡ false
differs w n h = go (bytes_eq (spelling w) n) refl
  where
    go : (t : Bool) → bytes_eq (spelling w) n ≡ t → t ≡ false
    go false e = refl
    go true e = absurd (h (sym ((bytes_eq-Decides (spelling w) n).0 e)))

none_found : (b : ℕ) (n : List ℕ) (ws : List Word) → begins b n ≡ true → IsNoneOf n (words_on b ws) → find (λ w. bytes_eq (spelling w) n) ws ≡ None
none_found b n [] h d = refl
none_found b n (w ∷ ws) h d = go (begins b (spelling w)) refl d (none_found b n ws h)
  where
    go : (t : Bool) → begins b (spelling w) ≡ t → IsNoneOf n (cond t (w ∷ words_on b ws) (words_on b ws)) →
        (IsNoneOf n (words_on b ws) → find (λ w. bytes_eq (spelling w) n) ws ≡ None) → find (λ w. bytes_eq (spelling w) n) (w ∷ ws) ≡ None
    go true e d more = rw (differs w n d.0) (more d.1)
    go false e d more =
        let other : n ≢ spelling w = λ is. let k : true ≡ false = sym h ∙ ap (begins b) is ∙ e in cc in
        rw (differs w n other) (more d)

-- a text that differs from the words which begin as it does is none
pub not_a_word : (b : ℕ) (n : List ℕ) → begins b n ≡ true → IsNoneOf n (words_on b all_words) → None ≡ word_of n
unfolding word_of
not_a_word b n h d = sym (none_found b n all_words h d)

first_passes : (p : ℕ → Bool) (b : ℕ) (n : List ℕ) → begins b n ≡ true → begins_in p n ≡ true → p b ≡ true
first_passes p b [] h k = cc
first_passes p b (x ∷ xs) h k = ap p (sym (equal x b h)) ∙ k

-- with what bytes the reserved words begin
abbrev pub begins_early : ℕ → Bool
begins_early b = nat_le 97 b && nat_lt b 103

abbrev pub begins_late : ℕ → Bool
begins_late b = nat_eq b 104 || (nat_eq b 105 || (nat_eq b 108 || (nat_eq b 112 || (nat_eq b 114 || (nat_eq b 115 || (nat_eq b 116 || nat_eq b 119))))))

abbrev pub begins_word : ℕ → Bool
begins_word b = begins_early b || begins_late b

neither : (s t : Bool) → t ≡ false → (s && t) ≡ false
neither true t h = h
neither false t h = refl

other : (a b : ℕ) → a ≢ b → nat_eq a b ≡ false
other a b h = grind (arith, nat_tests)

-- what comes before `a` begins no word
pub before_words : (b : ℕ) → b < 97 → begins_word b ≡ false
before_words b h =
    let low : nat_le 97 b ≡ false = grind (arith, nat_tests) in
    rw (
      low,
      other b 104 (λ e. absurd (omega arith)),
      other b 105 (λ e. absurd (omega arith)),
      other b 108 (λ e. absurd (omega arith)),
      other b 112 (λ e. absurd (omega arith)),
      other b 114 (λ e. absurd (omega arith)),
      other b 115 (λ e. absurd (omega arith)),
      other b 116 (λ e. absurd (omega arith)),
      other b 119 (λ e. absurd (omega arith)),
    ) refl

-- nor does a letter from `g` on that is none of these
pub between_words : (b : ℕ) → 103 ≤ b → b ≢ 104 → b ≢ 105 → b ≢ 108 → b ≢ 112 → b ≢ 114 → b ≢ 115 → b ≢ 116 → b ≢ 119 → begins_word b ≡ false
between_words b h h4 h5 h8 h12 h14 h15 h16 h19 =
    let high : nat_lt b 103 ≡ false = grind (arith, nat_tests) in
    let early : begins_early b ≡ false = neither (nat_le 97 b) (nat_lt b 103) high in
    rw (early, other b 104 h4, other b 105 h5, other b 108 h8, other b 112 h12, other b 114 h14, other b 115 h15, other b 116 h16, other b 119 h19) refl

word_begins : (w : Word) → begins_in begins_word (spelling w) ≡ true
word_begins Team = refl
word_begins _ = refl

-- what begins as no word is none
pub begins_no_word : (b : ℕ) (n : List ℕ) → begins b n ≡ true → begins_word b ≡ false → None ≡ word_of n
begins_no_word b n h out = go (word_of n) refl
  where
    go : (o : Option Word) → word_of n ≡ o → None ≡ word_of n
    go None e = sym e
    go (Some w) e =
        let begun : begins_in begins_word n ≡ true = ap (begins_in begins_word) (sym (spelling-word_of n w e)) ∙ word_begins w in
        let k : true ≡ false = sym (first_passes begins_word b n h begun) ∙ out in
        cc

two_bytes : (w : Word) → nat_le 2 (length (spelling w)) ≡ true
two_bytes Team = refl
two_bytes _ = refl

-- a name of one byte is no word
pub short_no_word : (n : List ℕ) → length n < 2 → None ≡ word_of n
short_no_word n short = go (word_of n) refl
  where
    go : (o : Option Word) → word_of n ≡ o → None ≡ word_of n
    go None e = sym e
    go (Some w) e =
        let two : nat_le 2 (length n) ≡ true = ap (λ n. nat_le 2 (length n)) (sym (spelling-word_of n w e)) ∙ two_bytes w in
        absurd (grind (arith, nat_tests))
