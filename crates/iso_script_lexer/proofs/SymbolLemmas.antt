-- Symbols: `front_of` reads what is spelled.
use Rattle.std.proofs.Common.{◌≡◌, ℕ, ◌≤◌, List, [], ◌∷◌, ◌++◌, length, drop, Bool, true, false, nat_eq, ◌&&◌, Option, Some, None, refl, ap, sym, ◌∙◌, arith}
use Rattle.iso_script_lexer.specs.Piece.{symbol_at}
use Rattle.iso_script_lexer.specs.Spelling.{marks, begins, is_letter, is_digit}
use Rattle.iso_script_lexer.specs.LexicalGrammar.{spells_symbol}
use Rattle.iso_script_lexer.specs.Scan.{gap_from, double_symbol, single_symbol, longest_symbol, symbol_front, symbol_piece, front_of, after_gap}
use Rattle.iso_script_lexer.specs.declared.symbol.Symbol.{Symbol}
use Rattle.iso_script_lexer.specs.declared.symbol.Symbol.TheVariants.{OpenBrace, Equals, Plus, PlusPlus, EqualsEquals, NotEquals}
use Rattle.iso_script_lexer.proofs.Decisions.{by_test, equal, both}
use Rattle.iso_script_lexer.proofs.Gaps.{starts}
use Rattle.iso_script_lexer.proofs.Fronts.{Fronts, a_token, no_front}
use Rattle.iso_script_lexer.specs.declared.token.Position.{Position}
use Rattle.iso_script_lexer.specs.Positions.{Line}

-- no longer symbol is at the front
abbrev IsLongest : ℕ → List ℕ → Type 0
IsLongest n bs = (t : Symbol) (more : List ℕ) → bs ≡ marks t ++ more → length (marks t) ≤ n

-- a symbol that is the longest is read
begins_none : (c : ℕ) (rest : List ℕ) → ((more : List ℕ) → rest ≡ c ∷ more → ⊥) → begins c rest ≡ false
begins_none c rest h = go (begins c rest) refl
  where
    go : (t : Bool) → begins c rest ≡ t → t ≡ false
    go false e = refl
    go true e = let s = starts c rest e in absurd (h s.1 (s.2 ∙ ap (λ b. b ∷ s.1) s.3))

pub front_of-symbol : (r : Position) (s : Symbol) (rest : List ℕ) → IsLongest (length (marks s)) (marks s ++ rest) → front_of r (marks s ++ rest) ≡ Some (symbol_at r s, rest)
unfolding front_of symbol_front
front_of-symbol r Plus rest h =
    let alone : begins 43 rest ≡ false = begins_none 43 rest (λ more e. let two : 2 ≤ 1 = h PlusPlus more (ap (λ bs. 43 ∷ bs) e) in absurd (omega arith)) in
    rw alone refl
front_of-symbol r Equals rest h =
    let alone : begins 61 rest ≡ false = begins_none 61 rest (λ more e. let two : 2 ≤ 1 = h EqualsEquals more (ap (λ bs. 61 ∷ bs) e) in absurd (omega arith)) in
    rw alone refl
front_of-symbol r _ rest h = refl

pub stays-symbol : (r : Line) (s : Symbol) (rest : List ℕ) → after_gap false r (marks s ++ rest) ≡ (r, marks s ++ rest)
unfolding gap_from
stays-symbol r OpenBrace rest = refl
stays-symbol r _ rest = refl

-- what is read as a symbol is spelled so
abbrev double_at : List ℕ → Option Symbol
double_at [] = None
double_at (b ∷ bs) = double_symbol b bs

marks-short : (s : Symbol) → length (marks s) ≤ 2
marks-short PlusPlus = omega arith
marks-short _ = omega arith

single-longest : (b : ℕ) (bs : List ℕ) → double_symbol b bs ≡ None → IsLongest 1 (b ∷ bs)
single-longest b bs none PlusPlus more is = let e : None ≡ Some PlusPlus = sym none ∙ ap double_at is in cc
single-longest b bs none EqualsEquals more is = let e : None ≡ Some EqualsEquals = sym none ∙ ap double_at is in cc
single-longest b bs none NotEquals more is = let e : None ≡ Some NotEquals = sym none ∙ ap double_at is in cc
single-longest b bs none _ more is = omega arith

-- the symbol is written so
abbrev Writes : ℕ → Option Symbol → Type 0
Writes b None = Unit {0}
Writes b (Some s) = marks s ≡ b ∷ []

one_mark : (b c : ℕ) → nat_eq b c ≡ true → c ∷ [] ≡ b ∷ []
one_mark b c e = ap (λ c. c ∷ []) (sym (equal b c e))

single_symbol-Writes : (b : ℕ) → Writes b (single_symbol b)
single_symbol-Writes b =
    by_test (Writes b) (nat_eq b 123) _ _ (λ e. one_mark b 123 e) (λ n0.
    by_test (Writes b) (nat_eq b 125) _ _ (λ e. one_mark b 125 e) (λ n1.
    by_test (Writes b) (nat_eq b 40) _ _ (λ e. one_mark b 40 e) (λ n2.
    by_test (Writes b) (nat_eq b 41) _ _ (λ e. one_mark b 41 e) (λ n3.
    by_test (Writes b) (nat_eq b 59) _ _ (λ e. one_mark b 59 e) (λ n4.
    by_test (Writes b) (nat_eq b 44) _ _ (λ e. one_mark b 44 e) (λ n5.
    by_test (Writes b) (nat_eq b 61) _ _ (λ e. one_mark b 61 e) (λ n6.
    by_test (Writes b) (nat_eq b 43) _ _ (λ e. one_mark b 43 e) (λ n7.
    by_test (Writes b) (nat_eq b 45) _ _ (λ e. one_mark b 45 e) (λ n8.
    by_test (Writes b) (nat_eq b 42) _ _ (λ e. one_mark b 42 e) (λ n9.
    by_test (Writes b) (nat_eq b 60) _ _ (λ e. one_mark b 60 e) (λ n10. tt)))))))))))

-- the two bytes at the front are the symbol
abbrev WritesTwo : ℕ → List ℕ → Option Symbol → Type 0
WritesTwo b bs None = Unit {0}
WritesTwo b bs (Some s) = (b ∷ bs ≡ marks s ++ drop 1 bs) × (length (marks s) ≡ 2)

two_marks : (b c d : ℕ) (bs : List ℕ) → nat_eq b c && begins d bs ≡ true → b ∷ bs ≡ c ∷ d ∷ drop 1 bs
two_marks b c d bs e =
    let t = both (nat_eq b c) (begins d bs) e in
    let s = starts d bs t.1 in
    let first : b ≡ c = equal b c t.0 in
    let second : bs ≡ d ∷ s.1 = s.2 ∙ ap (λ x. x ∷ s.1) s.3 in
    let rest : drop 1 bs ≡ s.1 = ap (drop 1) second in
    cc

double_symbol-WritesTwo : (b : ℕ) (bs : List ℕ) → WritesTwo b bs (double_symbol b bs)
double_symbol-WritesTwo b bs =
    by_test (WritesTwo b bs) (nat_eq b 43 && begins 43 bs) _ _ (λ e. (two_marks b 43 43 bs e, refl)) (λ n0.
    by_test (WritesTwo b bs) (nat_eq b 61 && begins 61 bs) _ _ (λ e. (two_marks b 61 61 bs e, refl)) (λ n1.
    by_test (WritesTwo b bs) (nat_eq b 33 && begins 61 bs) _ _ (λ e. (two_marks b 33 61 bs e, refl)) (λ n2. tt)))

pub symbol_front-Fronts : (r : Position) (b : ℕ) (bs : List ℕ) → is_letter b ≡ false → is_digit b ≡ false → nat_eq b 34 ≡ false
    → Fronts r (b ∷ bs) (symbol_piece r b (longest_symbol (double_symbol b bs) (single_symbol b) bs))
symbol_front-Fronts r b bs l d q = go (double_symbol b bs) (single_symbol b) refl (double_symbol-WritesTwo b bs) (single_symbol-Writes b)
  where
    go : (two one : Option Symbol) → double_symbol b bs ≡ two → WritesTwo b bs two → Writes b one → Fronts r (b ∷ bs) (symbol_piece r b (longest_symbol two one bs))
    go (Some s) one is two writes = a_token (spells_symbol two.0 (λ t more e. omega (arith, marks-short t, two.1)))
    go None (Some s) none two writes =
        a_token (spells_symbol (ap (λ m. m ++ bs) (sym writes)) (λ t more e. let n : length (marks s) ≡ 1 = ap length writes in omega (arith, single-longest b bs none t more e)))
    go None None none two writes = no_front (rw (l, d, q) refl)
