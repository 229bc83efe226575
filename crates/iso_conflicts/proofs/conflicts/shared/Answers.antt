use Rattle.std.proofs.Common.{◌++◌, List, ℕ, codes, ap, sym, ◌∙◌, append-nil}
use Rattle.iso_conflicts.specs.ConflictsText.{shared_text}
use Rattle.iso_plan.specs.RowView.{tree_of}
use Rattle.iso_tap.proofs.PrinterLemmas.{prints_as}
use Rattle.iso_conflicts.proofs.conflicts.shared.Goals as goal

pub returns-in-Class : goal.returns-in-Class
returns-in-Class g c = prints_as c.shared_class.ensures _ (ap (shared_text (tree_of c.args.plan.now)) (sym c.in-Class.is))

pub returns-in-Key : goal.returns-in-Key
returns-in-Key g c =
    let text = append-nil c.as_bytes.result.now ∙ c.as_bytes.ensures.value ∙ c.key.ensures in
    prints_as c.pieces.ensures _ (ap (λ (t : List ℕ). codes "key " ++ t) text ∙ ap (shared_text (tree_of c.args.plan.now)) (sym c.in-Key.is))
