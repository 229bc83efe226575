-- The lines of a text, of which one ends at a line feed.
use Rattle.std.proofs.Common.{◌≡◌, ℕ, suc, ◌+◌, ◌<◌, ◌≤◌, List, [], ◌∷◌, take, drop, length, get_or, Bool, true, false, not, ◌==◌, cond, nat_lt, Some, None, refl, sym, ap, ◌∙◌, arith}
use Rattle.std.proofs.lemmas.Bool.Decides.{nat_tests}
use Rattle.std.proofs.lemmas.List.Splits.{slice_split_first}
use Rattle.std.specs.List.{onto_first, position, position_or_len, slice_split}
use Rattle.std.specs.Str.Lines.{lines, lines_of_parts, strip_carriage_return}

abbrev is_feed : ℕ → Bool
is_feed b = b == 10

-- the parts of a text have a first one
record HasFirst (parts : List (List ℕ)) : Type 0 where
  first : List ℕ
  more : List (List ℕ)
  is : parts ≡ first ∷ more

has_by : (x : ℕ) (parts : List (List ℕ)) (b : Bool) → HasFirst parts → HasFirst (cond b ([] ∷ parts) (onto_first x parts))
has_by x parts true h = record { first = []; more = parts; is = refl }
has_by x parts false h = record { first = x ∷ h.first; more = h.more; is = ap (onto_first x) h.is }

has_first : (text : List ℕ) → HasFirst (slice_split is_feed text)
has_first [] = record { first = []; more = []; is = refl }
has_first (x ∷ xs) = has_by x (slice_split is_feed xs) (is_feed x) (has_first xs)

-- where a search ends: it found this place, or none
found_by : (b : Bool) (n e : ℕ) → cond b (Some n) None ≡ Some e → (b ≡ true) × (n ≡ e)
found_by true n e h = (refl, cc)
found_by false n e h = absurd (cc)

none_by : (b : Bool) (n : ℕ) → cond b (Some n) None ≡ None → b ≡ false
none_by true n h = absurd (cc)
none_by false n h = refl

-- a line that ends at a line feed is the first
lines-first : (line rest first : List ℕ) (more : List (List ℕ)) → slice_split is_feed rest ≡ first ∷ more → lines_of_parts (line ∷ slice_split is_feed rest) ≡ strip_carriage_return line ∷ lines rest
lines-first line rest first more e =
    ap (λ (parts : List (List ℕ)). lines_of_parts (line ∷ parts)) e ∙ ap (λ (parts : List (List ℕ)). strip_carriage_return line ∷ lines_of_parts parts) (sym e)

less_from : (n m : ℕ) → nat_lt n m ≡ true → n < m
less_from n m e = grind (arith, nat_tests)

pub first-line : (text : List ℕ) (e : ℕ) → position (λ b. b == 10) text ≡ Some e → lines text ≡ strip_carriage_return (take e text) ∷ lines (drop (e + 1) text)
first-line text e h =
    let n = position_or_len is_feed text in
    let found = found_by (nat_lt n (length text)) n e h in
    let first = has_first (drop (e + 1) text) in
    ap lines_of_parts (slice_split_first is_feed text 0 (less_from n (length text) found.0) ∙ ap (λ (k : ℕ). take k text ∷ slice_split is_feed (drop (k + 1) text)) found.1)
    ∙ lines-first (take e text) (drop (e + 1) text) first.first first.more first.is

-- a text without a line feed is one part
none_at : (x : ℕ) (xs : List ℕ) (b : Bool) → suc (length xs) ≤ cond (not b) (1 + position_or_len is_feed xs) 0 → (length xs ≤ position_or_len is_feed xs → slice_split is_feed xs ≡ xs ∷ [])
    → cond b ([] ∷ slice_split is_feed xs) (onto_first x (slice_split is_feed xs)) ≡ (x ∷ xs) ∷ []
none_at x xs true h more = absurd (omega arith)
none_at x xs false h more = ap (onto_first x) (more (omega arith))

one_part : (text : List ℕ) → length text ≤ position_or_len is_feed text → slice_split is_feed text ≡ text ∷ []
one_part [] h = refl
one_part (x ∷ xs) h = none_at x xs (is_feed x) h (one_part xs)

not_less : (n m : ℕ) → nat_lt n m ≡ false → m ≤ n
not_less n m e = grind (arith, nat_tests)

pub last-line : (text : List ℕ) → position (λ b. b == 10) text ≡ None → lines text ≡ cond (length text == 0) [] (text ∷ [])
last-line text h =
    let n = position_or_len is_feed text in
    ap lines_of_parts (one_part text (not_less n (length text) (none_by (nat_lt n (length text)) n h)))

first_by : (text : List ℕ) (b : Bool) → (length text == 0) ≡ b → get_or (cond b [] (text ∷ [])) 0 [] ≡ text
first_by [] true e = refl
first_by (x ∷ xs) true e = absurd (grind (arith, nat_tests))
first_by text false e = refl

past_by : (text : List ℕ) (b : Bool) (k : ℕ) → get_or (cond b [] (text ∷ [])) (suc k) [] ≡ []
past_by text true k = refl
past_by text false k = refl

-- it is the first line, if it has a byte, and there is no other
pub in-last : (text : List ℕ) → position (λ b. b == 10) text ≡ None → get_or (lines text) 0 [] ≡ text
in-last text h = ap (λ (ls : List (List ℕ)). get_or ls 0 []) (last-line text h) ∙ first_by text (length text == 0) refl

pub past-last : (text : List ℕ) (k : ℕ) → position (λ b. b == 10) text ≡ None → get_or (lines text) (suc k) [] ≡ []
past-last text k h = ap (λ (ls : List (List ℕ)). get_or ls (suc k) []) (last-line text h) ∙ past_by text (length text == 0) k
