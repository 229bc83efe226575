-- What the message of a fault names.
use Rattle.std.specs.Prelude.{ℕ, List, [], ◌∷◌, Option, None, Some, ◌==◌, cond}

-- what stands behind a beginning of a text, if it begins so
abbrev pub after : (beginning text : List ℕ) → Option (List ℕ)
after [] text = Some text
after (p ∷ ps) [] = None
after (p ∷ ps) (b ∷ bs) = cond (b == p) (after ps bs) None
