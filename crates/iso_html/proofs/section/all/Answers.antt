use Rattle.std.proofs.Common.{List, ap, map}
use Rattle.std.proofs.lemmas.Result.{err_from_is_err_and}
use Rattle.iso_html.specs.Sections.{section_text}
use Rattle.iso_html.specs.declared.section.Section.{Section}
use Rattle.iso_junit.specs.Runs.{run_of}
use Rattle.iso_junit.specs.Texts.{joined}
use Rattle.iso_tap.proofs.PrinterLemmas.{drop_next, left_cut, left_next}
use Rattle.iso_html.proofs.section.all.Goals as goal

pub returns-in_err-write_section : goal.returns-in_err-write_section
returns-in_err-write_section g c =
    let p = err_from_is_err_and c.from_residual.result c.from_residual.ensures.1 in
    let next = ap (λ (xs : List Section). joined (map (section_text (run_of c.args.run.now) c.args.measured.now) xs))
    (drop_next c.args.sections.now c.loop-section.section-index _ c.loop-section-test.true) in
    rw p.1 (left_cut _ _ p.0 next c.loop-section.invariant c.in_err-write_section.ensures)

pub loop-section-preserved : goal.loop-section-preserved
loop-section-preserved g c =
    let next = ap (λ (xs : List Section). joined (map (section_text (run_of c.args.run.now) c.args.measured.now) xs))
    (drop_next c.args.sections.now c.loop-section.section-index _ c.loop-section-test.true) in
    left_next next c.loop-section.invariant c.in_ok-write_section.ensures
