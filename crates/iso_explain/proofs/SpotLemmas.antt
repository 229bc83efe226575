-- Lines of a text, as the hints count them.
use Rattle.std.proofs.Common.{◌≡◌, ℕ, zero, suc, ◌+◌, List, [], ◌∷◌, Bool, true, false, ◌==◌, cond, refl, arith}
use Rattle.iso_hints.specs.Positions.{line_start}
use Rattle.iso_explain.specs.Spots.{lines_bytes}

-- so many first lines have as many bytes here as there
pub lines-start : (n : ℕ) (bs : List ℕ) → line_start n bs ≡ lines_bytes n bs
lines-start zero bs = refl
lines-start (suc n) [] = refl
lines-start (suc n) (b ∷ bs) = by (b == 10) (lines-start n bs) (lines-start (suc n) bs)
  where
    by : (t : Bool) → line_start n bs ≡ lines_bytes n bs → line_start (suc n) bs ≡ lines_bytes (suc n) bs
        → 1 + line_start (cond t n (suc n)) bs ≡ cond t (lines_bytes n bs) (lines_bytes (suc n) bs) + 1
    by true ended on = omega (arith, ended)
    by false ended on = omega (arith, on)
