-- The path of a node that stands in a class, with its escapes.
use Rattle.std.proofs.Common.{◌≡◌, ◌<◌, ℕ, List, ◌++◌, codes, ap, ◌∙◌}
use Rattle.iso_plan.proofs.PathLemmas.{IsBelow}
use Rattle.iso_plan.specs.Paths.{parent, row_at}
use Rattle.iso_plan.specs.PathTexts.{path_text}
use Rattle.iso_plan.specs.Tree.{Row}
use Rattle.iso_junit.proofs.EscapeLemmas.{escaped-append}
use Rattle.iso_junit.specs.Escapes.{escaped}
use Rattle.iso_tap.proofs.PlanLemmas.{path-inside}

pub escaped-inside : (tree : List Row) → IsBelow tree → (n class : ℕ) → 0 < n → class ≡ parent tree n → 0 < class
    → escaped (path_text tree n) ≡ escaped (path_text tree class) ++ (codes "." ++ escaped (row_at tree n).name)
escaped-inside tree below n class pos is above =
    ap escaped (path-inside tree below n class pos is above)
    ∙ escaped-append (path_text tree class) (codes "." ++ (row_at tree n).name)
