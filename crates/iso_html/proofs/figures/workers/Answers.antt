use Rattle.std.proofs.Common.{List, ℕ, ◌/◌, [], ◌∷◌, codes, ap, ap₂, ◌∙◌}
use Rattle.std.specs.Fmt.{decimal}
use Rattle.iso_html.specs.Parts.{seconds}
use Rattle.iso_junit.specs.Texts.{joined}
use Rattle.iso_tap.proofs.PrinterLemmas.{prints_as}
use Rattle.iso_html.proofs.figures.workers.Goals as goal

abbrev line : (workers of : ℕ) → (word : List ℕ) → (span busy : ℕ) → List ℕ
line workers of word span busy =
    joined
    (codes "<li><b>"
    ∷ decimal workers
    ∷ codes " of "
    ∷ decimal of
    ∷ word
    ∷ seconds (span / 1000)
    ∷ codes "</b> wall time</li>\n<li><b>"
    ∷ decimal busy
    ∷ codes " %</b> busy</li>\n"
    ∷ [])

pub returns : goal.returns
returns g c =
    let f = c.args.figures.now in
    prints_as c.write_parts.ensures _
    (ap₂ (λ (m n : ℕ). line m n c.word_for.result.now f.span f.busy) c.from.ensures c.from-2.ensures
    ∙ ap (λ (w : List ℕ). line f.workers f.of w f.span f.busy) c.word_for.ensures)
