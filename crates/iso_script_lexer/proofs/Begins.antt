-- What the tables of bytes say: functions of a byte are held against one another at each of the 256 bytes, by computing.
use Rattle.std.proofs.Common.{◌≡◌, ◌≢◌, ℕ, ◌<◌, ◌≤◌, ◌-◌, drop, take, length, [], ◌∷◌, Bool, true, false, not, ◌||◌, nat_eq, None, map, get_or, refl, ap, sym, ◌∙◌, arith, List}
use Rattle.std.proofs.lemmas.Bool.Decides.{nat_tests}
use Rattle.std.proofs.lemmas.List.{take_rest}
use Rattle.std.proofs.lemmas.List.FromFn.{get_or-map-range_with_len}
use Rattle.std.specs.List.{prefix_len, range_with_len}
use Rattle.iso_script_lexer.specs.Spelling.{begins_in, is_blank, is_letter, is_digit, is_printable, in_name}
use Rattle.iso_script_lexer.specs.Scan.{after_gap, begun_by, double_symbol, front_of, gap_from, longest_symbol, name_piece, number_piece, quoted_length, single_symbol, symbol_piece, text_piece}
use Rattle.iso_script_lexer.specs.Positions.{Line}
use Rattle.iso_script_lexer.proofs.Fronts.{BeginsNoGap, front_of-digit, front_of-letter, front_of-other, front_of-quote, stays}
use Rattle.iso_script_lexer.proofs.Decisions.{equal}
use Rattle.iso_script_lexer.specs.declared.token.Position.{Position}
use Rattle.iso_script_lexer.specs.declared.begin.TheConstants.{BEGUN, IN_NAME}

-- what a function gives of each byte
abbrev of_bytes : {A : Type 0} → (ℕ → A) → List A
of_bytes f = map f (range_with_len 0 256)

agree : {A : Type 0} (f g : ℕ → A) (default : A) → of_bytes f ≡ of_bytes g → (b : ℕ) → b < 256 → f b ≡ g b
agree f g d same b h =
    sym (get_or-map-range_with_len f 0 256 b b d h (omega arith)) ∙ ap (λ t. get_or t b d) same ∙ get_or-map-range_with_len g 0 256 b b d h (omega arith)

pub table_of_begun : (b : ℕ) → b < 256 → get_or BEGUN b 0 ≡ begun_by b
unfolding begun_by
table_of_begun = agree (λ b. get_or BEGUN b 0) begun_by 0 refl

pub table_of_names : (b : ℕ) → b < 256 → not (nat_eq (get_or IN_NAME b 0) 46) ≡ in_name b
table_of_names = agree (λ b. not (nat_eq (get_or IN_NAME b 0) 46)) in_name false refl

pub begun-letter : (b : ℕ) → b < 256 → nat_eq (begun_by b) 97 ≡ is_letter b
unfolding begun_by
begun-letter = agree (λ b. nat_eq (begun_by b) 97) is_letter false refl

pub begun-digit : (b : ℕ) → b < 256 → nat_eq (begun_by b) 48 ≡ is_digit b
unfolding begun_by
begun-digit = agree (λ b. nat_eq (begun_by b) 48) is_digit false refl

pub begun-quote : (b : ℕ) → b < 256 → nat_eq (begun_by b) 34 ≡ nat_eq b 34
unfolding begun_by
begun-quote = agree (λ b. nat_eq (begun_by b) 34) (λ b. nat_eq b 34) false refl

pub begun-plus : (b : ℕ) → b < 256 → nat_eq (begun_by b) 43 ≡ nat_eq b 43
unfolding begun_by
begun-plus = agree (λ b. nat_eq (begun_by b) 43) (λ b. nat_eq b 43) false refl

pub begun-equals : (b : ℕ) → b < 256 → nat_eq (begun_by b) 61 ≡ nat_eq b 61
unfolding begun_by
begun-equals = agree (λ b. nat_eq (begun_by b) 61) (λ b. nat_eq b 61) false refl

pub begun-not : (b : ℕ) → b < 256 → nat_eq (begun_by b) 33 ≡ nat_eq b 33
unfolding begun_by
begun-not = agree (λ b. nat_eq (begun_by b) 33) (λ b. nat_eq b 33) false refl

pub begun-symbol : (b : ℕ) → b < 256 → single_symbol (begun_by b) ≡ single_symbol b
unfolding begun_by
begun-symbol = agree (λ b. single_symbol (begun_by b)) single_symbol None refl

pub begun-gap : (b : ℕ) → b < 256 → nat_eq (begun_by b) 47 ≡ (is_blank b || (nat_eq b 10 || nat_eq b 47))
unfolding begun_by
begun-gap = agree (λ b. nat_eq (begun_by b) 47) (λ b. is_blank b || (nat_eq b 10 || nat_eq b 47)) false refl

neither : (s t : Bool) → (s || t) ≡ false → (s ≡ false) × (t ≡ false)
neither false false h = (refl, refl)
neither false true h = cc
neither true t h = cc

pub begins_no_gap : (b : ℕ) → b < 256 → nat_eq (begun_by b) 47 ≡ false → BeginsNoGap b
begins_no_gap b lt h =
    let outside = neither (is_blank b) (nat_eq b 10 || nat_eq b 47) (sym (begun-gap b lt) ∙ h) in
    let others = neither (nat_eq b 10) (nat_eq b 47) outside.1 in
    record { no_line = others.0; no_blank = outside.0; no_slash = others.1 }

other : (a b : ℕ) → a ≢ b → nat_eq a b ≡ false
other a b h = grind (arith, nat_tests)

-- no gap is next at the end, nor before a byte that begins none
pub at_end : (line : Line) (bs : List ℕ) → length bs < 1 → (line, bs) ≡ after_gap false line bs
unfolding gap_from
at_end line [] h = refl
at_end line (b ∷ bs) h = absurd (omega arith)

pub no_gap : (line : Line) (bs : List ℕ) → 1 ≤ length bs → get_or bs 0 0 < 256 → begun_by (get_or bs 0 0) ≢ 47 → (line, bs) ≡ after_gap false line bs
no_gap line [] some lt h = absurd (omega arith)
no_gap line (b ∷ bs) some lt h = sym (stays line b bs (begins_no_gap b lt (other _ 47 h)))

double_begun : (b : ℕ) (bs : List ℕ) → b < 256 → double_symbol (begun_by b) bs ≡ double_symbol b bs
double_begun b bs lt = rw (begun-plus b lt, begun-equals b lt, begun-not b lt) refl

-- bytes whose first begins what a byte n stands for, and the rest of them, as a match on a slice has it
pub record Begun (bs : List ℕ) (n : ℕ) (rest : List ℕ) : Type 0 where
  pub some : 1 ≤ length bs
  pub byte : get_or bs 0 0 < 256
  pub begins : n ≡ begun_by (get_or bs 0 0)
  pub back : rest ≡ take (length bs - 1) (drop 1 bs)

-- what begins neither a name nor a number nor a text begins a symbol or nothing
pub front_of-begun : (r : Position) (bs : List ℕ) (n : ℕ) (rest : List ℕ) → Begun bs n rest → n ≢ 97 → n ≢ 48 → n ≢ 34
    → front_of r bs ≡ symbol_piece r (get_or bs 0 0) (longest_symbol (double_symbol n rest) (single_symbol n) rest)
front_of-begun r [] n rest h letter digit quote = absurd (let s = h.some in omega arith)
front_of-begun r (b ∷ bs) n rest h letter digit quote =
    let back : rest ≡ bs = h.back ∙ take_rest (b ∷ bs) 1 in
    front_of-other r b bs (sym (begun-letter b h.byte) ∙ ap (λ n. nat_eq n 97) (sym h.begins) ∙ other n 97 letter)
    (sym (begun-digit b h.byte) ∙ ap (λ n. nat_eq n 48) (sym h.begins) ∙ other n 48 digit) (sym (begun-quote b h.byte) ∙ ap (λ n. nat_eq n 34) (sym h.begins) ∙ other n 34 quote)
    ∙ ap (λ d. symbol_piece r b (longest_symbol d (single_symbol b) bs)) (sym (double_begun b bs h.byte))
    ∙ ap (λ s. symbol_piece r b (longest_symbol (double_symbol (begun_by b) bs) s bs)) (sym (begun-symbol b h.byte))
    ∙ ap (λ n. symbol_piece r b (longest_symbol (double_symbol n bs) (single_symbol n) bs)) (sym h.begins)
    ∙ ap (λ bs. symbol_piece r b (longest_symbol (double_symbol n bs) (single_symbol n) bs)) (sym back)

-- what begins a name, a number and a text is one
pub letter_begins : (bs : List ℕ) (n : ℕ) (rest : List ℕ) → Begun bs n rest → n ≡ 97 → begins_in is_letter bs ≡ true
letter_begins [] n rest h is = absurd (let s = h.some in omega arith)
letter_begins (b ∷ bs) n rest h is = sym (begun-letter b h.byte) ∙ ap (λ n. nat_eq n 97) (sym h.begins ∙ is)

pub front_of-begun_name : (r : Position) (bs : List ℕ) (n : ℕ) (rest : List ℕ) → Begun bs n rest → n ≡ 97 → front_of r bs ≡ name_piece r (prefix_len in_name bs) bs
front_of-begun_name r [] n rest h is = absurd (let s = h.some in omega arith)
front_of-begun_name r (b ∷ bs) n rest h is = front_of-letter r b bs (letter_begins (b ∷ bs) n rest h is)

pub front_of-begun_number : (r : Position) (bs : List ℕ) (n : ℕ) (rest : List ℕ) → Begun bs n rest → n ≡ 48 → front_of r bs ≡ number_piece r (prefix_len is_digit bs) bs
front_of-begun_number r [] n rest h is = absurd (let s = h.some in omega arith)
front_of-begun_number r (b ∷ bs) n rest h is = front_of-digit r b bs (sym (begun-digit b h.byte) ∙ ap (λ n. nat_eq n 48) (sym h.begins ∙ is))

pub front_of-begun_text : (r : Position) (bs : List ℕ) (n : ℕ) (rest : List ℕ) → Begun bs n rest → n ≡ 34 → front_of r bs ≡ text_piece r (quoted_length false 4096 rest) rest
front_of-begun_text r [] n rest h is = absurd (let s = h.some in omega arith)
front_of-begun_text r (b ∷ bs) n rest h is =
    let quote : b ≡ 34 = equal b 34 (sym (begun-quote b h.byte) ∙ ap (λ n. nat_eq n 34) (sym h.begins ∙ is)) in
    let back : rest ≡ bs = h.back ∙ take_rest (b ∷ bs) 1 in
    ap (λ b. front_of r (b ∷ bs)) quote ∙ front_of-quote r bs ∙ ap (λ bs. text_piece r (quoted_length false 4096 bs) bs) (sym back)

-- which fault a byte is that begins nothing
pub is_printable-inside : (b : ℕ) → 32 ≤ b → b ≤ 126 → is_printable b ≡ true
is_printable-inside b low high = grind (arith, nat_tests)

pub is_printable-below : (b : ℕ) → b < 32 → is_printable b ≡ false
is_printable-below b low = grind (arith, nat_tests)

pub is_printable-above : (b : ℕ) → 126 < b → is_printable b ≡ false
is_printable-above b high = grind (arith, nat_tests)
