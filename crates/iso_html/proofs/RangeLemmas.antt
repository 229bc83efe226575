-- Numbers in a row.
use Rattle.std.proofs.Common.{◌≡◌, ◌<◌, ℕ, suc, ◌+◌, ◌-◌, List, ◌∷◌, ◌++◌, flat_map, ap, refl, arith}
use Rattle.std.specs.List.{range_with_len}

-- the numbers from one on, with it apart
pub range-next : (len n : ℕ) → n < len → range_with_len n (len - n) ≡ n ∷ range_with_len (n + 1) (len - (n + 1))
range-next len n h =
    let e : len - n ≡ suc (len - (n + 1)) = omega arith in
    rw e refl

-- their texts, with the first apart
pub texts-from : (text : ℕ → List ℕ) (len n : ℕ) → n < len
    → flat_map text (range_with_len n (len - n)) ≡ text n ++ flat_map text (range_with_len (n + 1) (len - (n + 1)))
texts-from text len n h = ap (flat_map text) (range-next len n h)
