-- The value of digits.
use Rattle.std.proofs.Common.{◌≡◌, ℕ, ◌+◌, ◌-◌, ◌*◌, ◌≤◌, List, [], ◌∷◌, length, get_or, true, refl, ap, arith, min, ◌∙◌, sym, drop, take, one-add}
use Rattle.std.proofs.lemmas.Bool.Decides.{nat_tests}
use Rattle.std.proofs.lemmas.List.{take_rest}
use Rattle.std.specs.List.{fold, prefix_len}
use Rattle.iso_script_lexer.specs.Spelling.{is_digit}

-- the value of digits after others of this value
abbrev pub value_from : ℕ → List ℕ → ℕ
value_from n digits = fold (λ n d. 10 * n + (d - 48)) n digits

-- a value above a bound stays above it
pub capped : (m n : ℕ) (ds : List ℕ) → min m (value_from (min m n) ds) ≡ min m (value_from n ds)
capped m n [] = omega arith
capped m n (d ∷ ds) =
    sym (capped m (10 * min m n + (d - 48)) ds)
    ∙ ap (λ k. min m (value_from k ds)) (omega arith)
    ∙ capped m (10 * n + (d - 48)) ds

-- the bytes behind the first, as a match on a slice has them
abbrev pub behind : List ℕ → List ℕ
behind bs = take (length bs - 1) (drop 1 bs)

abbrev pub digits_of : List ℕ → List ℕ
digits_of bs = take (prefix_len is_digit bs) bs

abbrev pub after_digits : List ℕ → List ℕ
after_digits bs = drop (prefix_len is_digit bs) bs

is_digit-inside : (b : ℕ) → 48 ≤ b → b ≤ 57 → is_digit b ≡ true
is_digit-inside b low high = grind (arith, nat_tests)

-- one digit more
pub one_digit : (m v k : ℕ) (bs : List ℕ) → 1 ≤ length bs → 48 ≤ get_or bs 0 0 → get_or bs 0 0 ≤ 57 → k ≡ min m (10 * v + (get_or bs 0 0 - 48)) →
    min m (value_from k (digits_of (behind bs))) ≡ min m (value_from v (digits_of bs))
one_digit m v k [] some low high is = absurd (omega arith)
one_digit m v k (d ∷ ds) some low high is =
    ap (λ t. min m (value_from k (digits_of t))) (take_rest (d ∷ ds) 1)
    ∙ rw (is_digit-inside d low high, one-add) (ap (λ k. min m (value_from k (digits_of ds))) is ∙ capped m (10 * v + (d - 48)) (digits_of ds))

pub after_digit : (bs : List ℕ) → 1 ≤ length bs → 48 ≤ get_or bs 0 0 → get_or bs 0 0 ≤ 57 → after_digits (behind bs) ≡ after_digits bs
after_digit [] some low high = absurd (omega arith)
after_digit (d ∷ ds) some low high = ap after_digits (take_rest (d ∷ ds) 1) ∙ rw (is_digit-inside d low high, one-add) refl
