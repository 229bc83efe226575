-- Texts that are lent.
use Rattle.std.specs.Borrow.{Bor}
use Rattle.std.specs.Prelude.{ℕ, List, map}

-- the texts
abbrev pub lent : List (Bor (List ℕ)) → List (List ℕ)
lent texts = map (λ (text : Bor (List ℕ)). text.now) texts
