use Rattle.std.proofs.Common.{List, ap, map}
use Rattle.std.proofs.lemmas.Result.{err_from_is_err_and}
use Rattle.iso_plan.specs.RowView.{tree_of}
use Rattle.iso_trace.specs.Parts.{joined}
use Rattle.iso_trace.specs.TraceText.{section_text}
use Rattle.iso_trace.specs.declared.trace.Section.{Section}
use Rattle.iso_tap.proofs.PrinterLemmas.{drop_next, left_cut, left_next}
use Rattle.iso_trace.proofs.trace.sections.Goals as goal

pub returns-in_err-write_section : goal.returns-in_err-write_section
returns-in_err-write_section g c =
    let p = err_from_is_err_and c.from_residual.result c.from_residual.ensures.1 in
    let next = ap (λ (xs : List Section). joined (map (section_text (tree_of c.args.run.now.plan.now) c.args.run.now.times.now c.args.run.now.results.now c.args.run.now.critical.now) xs))
    (drop_next c.args.sections.now c.loop-section.section-index _ c.loop-section-test.true) in
    rw p.1 (left_cut _ _ p.0 next c.loop-section.invariant c.in_err-write_section.ensures)

pub loop-section-preserved : goal.loop-section-preserved
loop-section-preserved g c =
    let next = ap (λ (xs : List Section). joined (map (section_text (tree_of c.args.run.now.plan.now) c.args.run.now.times.now c.args.run.now.results.now c.args.run.now.critical.now) xs))
    (drop_next c.args.sections.now c.loop-section.section-index _ c.loop-section-test.true) in
    left_next next c.loop-section.invariant c.in_ok-write_section.ensures
