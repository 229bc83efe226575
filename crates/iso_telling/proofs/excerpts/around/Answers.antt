use Rattle.std.proofs.Common.{List, [], ◌∷◌, ◌++◌, map, ap, ap₂, sym, ◌∙◌, arith}
use Rattle.std.proofs.lemmas.List.{map-append}
use Rattle.std.proofs.lemmas.List.FromFn.{map-range_with_len_more}
use Rattle.iso_html.specs.Quotes.{LineView, line_of}
use Rattle.iso_telling.specs.Excerpts.{numbered_line}
use Rattle.iso_telling.proofs.excerpts.around.Goals as goal

pub lines-preserved : goal.lines-preserved
lines-preserved c =
    let before = c.lines_before-before.ensures in
    let after = c.lines_after-after.ensures.count in
    let fits = c.lines_after-after.ensures.fits in
    let first = c.saturating_sub-first.ensures in
    let at = c.saturating_add.ensures in
    ap (map line_of) c.in_ok-push.ensures.items
    ∙ map-append line_of c.lines.lines.items _
    ∙ ap₂ (λ (ls : List LineView) (l : LineView). ls ++ l ∷ []) c.lines.invariant c.in_ok-numbered_line.ensures
    ∙ sym (map-range_with_len_more (numbered_line c.args.text.now) c.saturating_sub-first.result c.lines.place c.saturating_add.result (omega (arith, before, after, fits, first, at)))
