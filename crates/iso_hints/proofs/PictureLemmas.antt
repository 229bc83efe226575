-- Texts of pictures, byte by byte.
use Rattle.std.proofs.Common.{◌≡◌, ℕ, zero, suc, ◌-◌, ◌<◌, ◌∷◌, replicate, ap, sym, arith}

-- the first of so many bytes apart
pub replicate-next : (n b : ℕ) → 0 < n → replicate n b ≡ b ∷ replicate (n - 1) b
replicate-next zero b h = absurd (omega arith)
replicate-next (suc n) b h = let e : suc n - 1 ≡ n = omega arith in ap (λ (m : ℕ). b ∷ replicate m b) (sym e)
