-- The first line of bytes.
use Rattle.std.proofs.Common.{◌≡◌, ◌≢◌, ◌∙◌, ◌+◌, ◌<◌, ◌≤◌, ◌==◌, ℕ, List, [], ◌∷◌, Bool, true, false, Some, None, length, take, drop, refl, ap, arith, nat_lt, cond}
use Rattle.std.proofs.lemmas.Bool.{ne_eqb}
use Rattle.std.proofs.lemmas.Bool.Decides.{nat_tests}
use Rattle.std.proofs.lemmas.List.Quantifiers.{position-Some}
use Rattle.std.proofs.lemmas.List.Splits.{length-slice_split, slice_split_first, slice_split_none}
use Rattle.std.proofs.lemmas.List.Sums.{fails_before_first, position_or_len_is}
use Rattle.std.specs.List.{All, position, position_or_len, slice_split}
use Rattle.std.specs.Str.Lines.{lines, lines_of_parts, strip_carriage_return}

parts-more : (part : List ℕ) (parts : List (List ℕ)) → 0 < length parts → lines_of_parts (part ∷ parts) ≡ strip_carriage_return part ∷ lines_of_parts parts
parts-more part [] h = absurd (omega arith)
parts-more part (next ∷ parts) h = refl

-- a line that ends at a line feed
pub lines-first : (bs : List ℕ) (n : ℕ) → position (λ b. b == 10) bs ≡ Some n → lines bs ≡ strip_carriage_return (take n bs) ∷ lines (drop (n + 1) bs)
lines-first bs n e =
    let p : ℕ → Bool = λ b. b == 10 in
    let at = position-Some p bs n 0 e in
    let inside : n < length bs = at.0 in
    let is : position_or_len p bs ≡ n = position_or_len_is p bs n 0 (omega arith) at.2 (λ _. at.1) in
    let cut : slice_split p bs ≡ take n bs ∷ slice_split p (drop (n + 1) bs) =
    slice_split_first p bs 0 (omega arith) ∙ ap (λ k. take k bs ∷ slice_split p (drop (k + 1) bs)) is in
    ap lines_of_parts cut ∙ parts-more (take n bs) (slice_split p (drop (n + 1) bs)) (omega (arith, length-slice_split p (drop (n + 1) bs)))

-- a last line without a line feed
pub lines-last : (bs : List ℕ) → bs ≢ [] → position (λ b. b == 10) bs ≡ None → lines bs ≡ bs ∷ []
lines-last [] some e = absurd (some refl)
lines-last (b ∷ bs) some e =
    let p : ℕ → Bool = λ b. b == 10 in
    let least : length (b ∷ bs) ≤ position_or_len p (b ∷ bs) = go (nat_lt (position_or_len p (b ∷ bs)) (length (b ∷ bs))) refl in
    let none : All (λ c. p c ≡ false) (b ∷ bs) = λ k d h. fails_before_first p (b ∷ bs) k d (omega arith) in
    ap lines_of_parts (slice_split_none p (b ∷ bs) none) ∙ ap (λ t. cond t [] ((b ∷ bs) ∷ [])) (ne_eqb (length (b ∷ bs)) 0 (λ z. omega arith))
  where
    go : (t : Bool) → nat_lt (position_or_len (λ b. b == 10) (b ∷ bs)) (length (b ∷ bs)) ≡ t → length (b ∷ bs) ≤ position_or_len (λ b. b == 10) (b ∷ bs)
    go true h = let f = rw h at e in cc
    go false h = grind (arith, nat_tests)

pub no_bytes : (bs : List ℕ) → true ≡ (length bs == 0) → bs ≡ []
no_bytes [] h = refl
no_bytes (b ∷ bs) h = let n = ne_eqb (length (b ∷ bs)) 0 (λ z. omega arith) in cc
