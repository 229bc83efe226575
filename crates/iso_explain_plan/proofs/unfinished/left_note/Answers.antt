use Rattle.std.proofs.Common.{List, ℕ, [], ◌∷◌, ap, codes}
use Rattle.iso_tap.proofs.PrinterLemmas.{prints_as}
use Rattle.iso_plan.specs.RowView.{tree_of}
use Rattle.iso_explain_plan.specs.Notes.{note}
use Rattle.iso_explain_plan.specs.Parts.{node_text}
use Rattle.iso_explain_plan.specs.UnfinishedTexts.{left_note}
use Rattle.iso_explain_plan.proofs.unfinished.left_note.Goals as goal

pub returns : goal.returns
returns g c =
    let tree = tree_of c.args.plan.now in
    prints_as c.node_note.ensures (left_note tree c.args.left)
    (ap (λ (words : List ℕ). note (codes "the first that isn't is " ∷ node_text tree c.args.left.node ∷ words ∷ [])) c.left_words.ensures)
