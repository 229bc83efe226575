-- What was meant by a word.
use Rattle.std.specs.Prelude.{ℕ, List, [], ◌∷◌, codes}
use Rattle.iso_explain_plan.specs.Notes.{note}
use Rattle.iso_explain_plan.specs.Parts.{shown}

-- which of up to three paths were meant
abbrev pub did_you_mean : List (List ℕ) → List ℕ
did_you_mean [] = []
did_you_mean (p ∷ []) = note (codes "did you mean " ∷ shown p ∷ codes "?" ∷ [])
did_you_mean (p ∷ q ∷ []) =
    note (codes "did you mean " ∷ shown p ∷ codes " or " ∷ shown q ∷ codes "?" ∷ [])
did_you_mean (p ∷ q ∷ r ∷ more) =
    note (codes "did you mean " ∷ shown p ∷ codes ", " ∷ shown q ∷ codes " or " ∷ shown r
    ∷ codes "?" ∷ [])
