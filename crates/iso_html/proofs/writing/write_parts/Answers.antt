use Rattle.std.proofs.Common.{List, ap, map}
use Rattle.std.proofs.lemmas.Result.{err_from_is_err_and}
use Rattle.iso_html.specs.Parts.{part_text}
use Rattle.iso_html.specs.declared.part.Part.{Part}
use Rattle.iso_junit.specs.Texts.{joined}
use Rattle.iso_plan.specs.RowView.{tree_of}
use Rattle.iso_tap.proofs.PrinterLemmas.{drop_next, left_cut, left_next}
use Rattle.iso_html.proofs.writing.write_parts.Goals as goal

pub returns-in_err-write_part : goal.returns-in_err-write_part
returns-in_err-write_part g c =
    let p = err_from_is_err_and c.from_residual.result c.from_residual.ensures.1 in
    let next = ap (λ (ps : List Part). joined (map (part_text (tree_of c.args.plan.now)) ps)) (drop_next c.args.parts.now c.loop-part.part-index _ c.loop-part-test.true) in
    rw p.1 (left_cut _ _ p.0 next c.loop-part.invariant c.in_err-write_part.ensures)

pub loop-part-preserved : goal.loop-part-preserved
loop-part-preserved g c =
    let next = ap (λ (ps : List Part). joined (map (part_text (tree_of c.args.plan.now)) ps)) (drop_next c.args.parts.now c.loop-part.part-index _ c.loop-part-test.true) in
    left_next next c.loop-part.invariant c.in_ok-write_part.ensures
