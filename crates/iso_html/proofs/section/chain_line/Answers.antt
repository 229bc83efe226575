use Rattle.std.proofs.Common.{List, ℕ, ◌/◌, [], ◌∷◌, codes, ap}
use Rattle.iso_html.specs.Parts.{chain_name, link_text, next_text, seconds}
use Rattle.iso_junit.specs.Texts.{joined}
use Rattle.iso_plan.specs.RowView.{tree_of}
use Rattle.iso_tap.proofs.PrinterLemmas.{prints_as}
use Rattle.iso_html.proofs.section.chain_line.Goals as goal

pub returns : goal.returns
returns g c =
    let tree = tree_of c.args.plan.now in
    let chain = c.args.chain in
    prints_as c.write_parts.ensures _
    (ap
    (λ (end : List ℕ). joined
    (codes "<p>longest chain "
    ∷ seconds (chain.time / 1000)
    ∷ codes ": "
    ∷ chain_name tree chain.link
    ∷ codes ": "
    ∷ link_text tree chain.first
    ∷ next_text tree chain.second
    ∷ next_text tree chain.third
    ∷ end
    ∷ []))
    c.chain_end.ensures)
