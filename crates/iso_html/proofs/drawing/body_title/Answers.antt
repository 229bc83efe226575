use Rattle.std.proofs.Common.{List, ℕ, ◌/◌, [], ◌∷◌, codes, ap, ap₂, ◌∙◌}
use Rattle.iso_html.specs.Parts.{node_text, seconds}
use Rattle.iso_html.specs.PictureText.{kind_text, word_text}
use Rattle.iso_junit.specs.Runs.{run_of}
use Rattle.iso_junit.specs.Texts.{joined}
use Rattle.iso_plan.specs.RowView.{tree_of}
use Rattle.iso_tap.proofs.PrinterLemmas.{prints_as}
use Rattle.iso_html.proofs.drawing.body_title.Goals as goal

pub returns : goal.returns
returns g c =
    let tree = tree_of c.args.run.now.plan.now in
    let b = c.args.bar in
    let text : List ℕ → List ℕ → List ℕ → List ℕ = λ kind word critical. joined
    (node_text tree b.node
    ∷ kind
    ∷ codes ": "
    ∷ word
    ∷ critical
    ∷ codes ", "
    ∷ seconds (b.begin / 1000)
    ∷ codes " to "
    ∷ seconds (b.end / 1000)
    ∷ codes "</title></rect>\n"
    ∷ []) in
    prints_as c.write_parts.ensures _
    (ap₂ (λ (kind word : List ℕ). text kind word c.critical_word.result.now) c.kind_text.ensures c.word.ensures
    ∙ ap (λ (critical : List ℕ). text (kind_text c.args.kind) (word_text (run_of c.args.run.now) b.node) critical) c.critical_word.ensures)
