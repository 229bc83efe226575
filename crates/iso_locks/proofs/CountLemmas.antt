-- Counts of which some are written down, and zeros stand behind them.
use Rattle.std.proofs.Common.{◌≡◌, ℕ, zero, suc, ◌+◌, ◌-◌, ◌<◌, ◌≤◌, List, [], ◌∷◌, ◌++◌, get_or, length, replicate, set, ap, sym, ◌∙◌, arith, refl}
use Rattle.std.proofs.lemmas.List.{append_assoc, length-append, length-replicate, length-set, replicate-append-replicate, set-append_left}
use Rattle.iso_locks.specs.Lockers.{with_zeros}

none-counted : (m n : ℕ) → get_or (replicate m 0) n 0 ≡ (let none : ℕ = 0 in none)
none-counted zero n = refl
none-counted (suc m) zero = refl
none-counted (suc m) (suc n) = none-counted m n

zeros-behind : (written : List ℕ) (m n : ℕ) → get_or (written ++ replicate m 0) n 0 ≡ get_or written n 0
zeros-behind [] m n = none-counted m n
zeros-behind (x ∷ xs) m zero = refl
zeros-behind (x ∷ xs) m (suc n) = zeros-behind xs m n

-- what isn't written down counts 0
pub count-at : (written : List ℕ) (all n : ℕ) → get_or (with_zeros written all) n 0 ≡ get_or written n 0
count-at written all n = zeros-behind written (all - length written) n

-- written up to a number
abbrev pub grown : List ℕ → ℕ → List ℕ
grown written n = written ++ replicate (n + 1 - length written) 0

pub grown-length : (written : List ℕ) (n : ℕ) → length (grown written n) ≡ length written + (n + 1 - length written)
grown-length written n =
    length-append written (replicate (n + 1 - length written) 0) ∙ ap (λ (l : ℕ). length written + l) (length-replicate (n + 1 - length written) 0)

-- zeros that are written down change nothing
grown-same : (written : List ℕ) (all n : ℕ) → length written ≤ all → n < all → with_zeros (grown written n) all ≡ with_zeros written all
grown-same written all n fits h =
    let long = grown-length written n in
    let more = n + 1 - length written in
    let rest = all - length (grown written n) in
    let sum : more + rest ≡ all - length written = omega (arith, long, fits, h) in
    append_assoc written (replicate more 0) (replicate rest 0)
    ∙ ap (λ (zs : List ℕ). written ++ zs) (replicate-append-replicate more rest 0)
    ∙ ap (λ (m : ℕ). written ++ replicate m 0) sum

-- the counts with one of them set
pub count-set : (written : List ℕ) (all n count : ℕ) → length written ≤ all → n < all
    → with_zeros (set (grown written n) n count) all ≡ set (with_zeros written all) n count
count-set written all n count fits h =
    let long = grown-length written n in
    let within : n < length (grown written n) = omega (arith, long) in
    let rest = replicate (all - length (grown written n)) 0 in
    ap (λ (l : ℕ). set (grown written n) n count ++ replicate (all - l) 0) (length-set (grown written n) n count)
    ∙ sym (set-append_left (grown written n) rest n count within)
    ∙ ap (λ (cs : List ℕ). set cs n count) (grown-same written all n fits h)

-- a number of what contracts see is below all
pub length-all : (written : List ℕ) (all : ℕ) → length written ≤ all → length (with_zeros written all) ≡ all
length-all written all fits =
    let long = length-append written (replicate (all - length written) 0) in
    let zeros = length-replicate {A = ℕ} (all - length written) 0 in
    omega (arith, long, zeros, fits)

pub zeros-all : (all : ℕ) → with_zeros [] all ≡ replicate all 0
zeros-all all =
    let same : all - 0 ≡ all = omega arith in
    ap (λ (m : ℕ). replicate m 0) same

pub below : (written : List ℕ) (all n : ℕ) (view : List ℕ) → length written ≤ all → with_zeros written all ≡ view → n < length view → n < all
below written all n view fits e h =
    let long = length-all written all fits in
    let same : length (with_zeros written all) ≡ length view = ap (λ (cs : List ℕ). length cs) e in
    omega (arith, long, same, h)
