-- What holds of all waits.
use Rattle.std.specs.Prelude.{ℕ, ◌<◌, ◌≤◌, List, [], ◌∷◌, Option, Some, None, ⊤, ◌&&◌, cond, nat_le, nat_lt}
use Rattle.iso_waits.specs.declared.wait.Wait.{Wait}

-- waits take some time each, one after another, between two moments
abbrev pub AreInTurn : ℕ → ℕ → List Wait → Type 0
AreInTurn from until [] = ⊤
AreInTurn from until (w ∷ ws) = (from ≤ w.begin) × (w.begin < w.end) × (w.end ≤ until)
    × AreInTurn w.end until ws

-- who is waited for at a moment
abbrev pub waited_for : ℕ → List Wait → Option ℕ
waited_for t [] = None
waited_for t (w ∷ ws) = cond (nat_le w.begin t && nat_lt t w.end) (Some w.holder) (waited_for t ws)
