-- Lines of a text, line feed by line feed.
use Rattle.std.proofs.Common.{◌≡◌, ℕ, zero, suc, ◌+◌, ◌-◌, ◌<◌, ◌≤◌, List, [], ◌∷◌, Bool, true, false, ◌==◌, cond, drop, length, take, refl, arith}
use Rattle.std.proofs.lemmas.List.{length-drop, take_all}
use Rattle.iso_hints.specs.Positions.{line_start}
use Rattle.memchr.specs.Find.{Nowhere, Passes, is_byte}

pub not_true : (t : Bool) → ¬ (t ≡ true) → t ≡ false
not_true true h = absurd (h refl)
not_true false h = refl

-- a line feed stands at this place
abbrev pub Feed : List ℕ → ℕ → Type 0
Feed bytes k = Passes (is_byte 10) bytes k

ends_line : (n : ℕ) (bs : List ℕ) (t : Bool) → t ≡ true → 1 + line_start (cond t n (suc n)) bs ≡ 1 + line_start n bs
ends_line n bs t e = rw e refl

goes_on : (n : ℕ) (bs : List ℕ) (t : Bool) → t ≡ false → 1 + line_start (cond t n (suc n)) bs ≡ 1 + line_start (suc n) bs
goes_on n bs t e = rw e refl

-- a text without a line feed is one line
pub start-last : (n : ℕ) (bs : List ℕ) → Nowhere (Feed bs) 0 (length bs) → line_start (suc n) bs ≡ length bs
start-last n [] none = refl
start-last n (b ∷ bs) none =
    let rest = start-last n bs (λ k low high. none (suc k) (omega arith) (omega arith)) in
    let one = goes_on n bs (b == 10) (not_true (b == 10) (none 0 (omega arith) (omega arith))) in
    omega (arith, rest, one)

-- a first line ends with its line feed
pub start-behind : (n : ℕ) (bs : List ℕ) (k : ℕ) → k < length bs → ((j : ℕ) → j < k → ¬ Feed bs j) → Feed bs k
    → line_start (suc n) bs ≡ suc k + line_start n (drop (suc k) bs)
start-behind n [] k within before here = absurd (omega arith)
start-behind n (b ∷ bs) zero within before here = ends_line n bs (b == 10) here
start-behind n (b ∷ bs) (suc k) within before here =
    let rest : line_start (suc n) bs ≡ suc k + line_start n (drop (suc (suc k)) (b ∷ bs)) =
    start-behind n bs k (omega arith) (λ j low. before (suc j) (omega arith)) here in
    let one = goes_on n bs (b == 10) (not_true (b == 10) (before 0 (omega arith))) in
    omega (arith, rest, one)

-- what a slice from a place on has
pub slice-rest : (n : ℕ) (bs : List ℕ) → take (length bs - n) (drop n bs) ≡ drop n bs
slice-rest n bs =
    let long = length-drop n bs in
    let fits : length (drop n bs) ≤ length bs - n = omega (arith, long) in
    take_all (length bs - n) (drop n bs) fits
