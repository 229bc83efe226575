-- The lines of a plan with places, piece by piece.
use Rattle.std.proofs.Common.{◌≡◌, ◌<◌, ℕ, suc, ◌+◌, ◌-◌, List, [], ◌++◌, codes, sym, ap, ◌∙◌, arith, append_assoc, append-nil}
use Rattle.std.specs.Fmt.{decimal}
use Rattle.iso_placed_plan.specs.PlacedPlan.{each_node}

-- the lines of the nodes from one on, with its own apart
pub each-next : (line : ℕ → List ℕ) (len n : ℕ) → n < len
    → each_node line (len - n) n ≡ line n ++ each_node line (len - (n + 1)) (n + 1)
each-next line len n h =
    let e : len - n ≡ suc (len - (n + 1)) = omega arith in
    let f : n + 1 ≡ suc n = omega arith in
    rw e (ap (λ (m : ℕ). line n ++ each_node line (len - (n + 1)) m) (sym f))

-- the pieces of a place behind its file
pub place-pieces : (file : List ℕ) {l m c d : ℕ} → l ≡ m → c ≡ d
    → file ++ (codes ":" ++ (decimal l ++ (codes ":" ++ (decimal c ++ []))))
    ≡ file ++ codes ":" ++ decimal m ++ codes ":" ++ decimal d
place-pieces file {m = m} {d = d} e f =
    rw (e, f, append-nil (decimal d))
    (sym (append_assoc (file ++ codes ":" ++ decimal m) (codes ":") (decimal d)
    ∙ append_assoc (file ++ codes ":") (decimal m) (codes ":" ++ decimal d)
    ∙ append_assoc file (codes ":") (decimal m ++ (codes ":" ++ decimal d))))
