use Rattle.std.proofs.Common.{List, ap, map}
use Rattle.std.proofs.lemmas.Result.{err_from_is_err_and}
use Rattle.iso_summary.specs.Lines.{line}
use Rattle.iso_commands.specs.Parts.{part_text}
use Rattle.iso_commands.specs.declared.part.Part.{Part}
use Rattle.iso_tap.proofs.PrinterLemmas.{drop_next, left_cut, left_next}
use Rattle.iso_commands.proofs.part.line.Goals as goal

pub returns-in_err-write_part : goal.returns-in_err-write_part
returns-in_err-write_part g c =
    let p = err_from_is_err_and c.from_residual.result c.from_residual.ensures.1 in
    let next = ap (λ (ps : List Part). line (map part_text ps)) (drop_next c.args.parts.now c.loop-part.part-index _ c.loop-part-test.true) in
    rw p.1 (left_cut _ _ p.0 next c.loop-part.invariant c.in_err-write_part.ensures)

pub loop-part-preserved : goal.loop-part-preserved
loop-part-preserved g c =
    let next = ap (λ (ps : List Part). line (map part_text ps)) (drop_next c.args.parts.now c.loop-part.part-index _ c.loop-part-test.true) in
    left_next next c.loop-part.invariant c.in_ok-write_part.ensures
