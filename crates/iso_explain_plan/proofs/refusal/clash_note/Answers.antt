use Rattle.std.proofs.Common.{List, ℕ, [], ◌∷◌, ap, codes, ◌∙◌}
use Rattle.iso_tap.proofs.PrinterLemmas.{prints_as}
use Rattle.iso_plan.specs.RowView.{tree_of}
use Rattle.iso_explain_plan.specs.Notes.{note}
use Rattle.iso_explain_plan.specs.Parts.{node_text, shown}
use Rattle.iso_explain_plan.specs.Refusals.{clash_note, for_access, key_text}
use Rattle.iso_explain_plan.proofs.refusal.clash_note.Goals as goal

pub returns : goal.returns
returns g c =
    let tree = tree_of c.args.plan.now in
    let found = c.args.found in
    let text : List ℕ → List ℕ → List ℕ → List ℕ =
    λ key taken held. note (node_text tree c.args.node ∷ codes " takes " ∷ shown key ∷ taken ∷ codes "; "
    ∷ node_text tree c.args.holder ∷ codes " holds it" ∷ held ∷ codes ", entered and not left" ∷ []) in
    prints_as c.node_note.ensures (clash_note tree c.args.node c.args.holder found)
    (ap (λ (key : List ℕ). text key c.for_access.result.now c.for_access-2.result.now) c.key_text.ensures
    ∙ ap (λ (taken : List ℕ). text (key_text tree found.key) taken c.for_access-2.result.now) c.for_access.ensures
    ∙ ap (text (key_text tree found.key) (for_access found.taken)) c.for_access-2.ensures)
