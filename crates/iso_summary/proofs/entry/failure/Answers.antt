use Rattle.std.proofs.Common.{Ok, []}
use Rattle.iso_plan.specs.PathTexts.{path_text}
use Rattle.iso_plan.specs.RowView.{tree_of}
use Rattle.iso_summary.specs.Entries.{again_line, blocks_line, place_line, source_lines}
use Rattle.iso_summary.specs.Lines.{line}
use Rattle.iso_summary.specs.Views.{again_of, located_of}
use Rattle.iso_tap.proofs.PrinterLemmas.{prints_cut, prints_stopped, prints_then}
use Rattle.iso_summary.proofs.entry.failure.Goals as goal

pub returns-in_err-line_with_path : goal.returns-in_err-line_with_path
returns-in_err-line_with_path g c =
    let path = path_text (tree_of c.args.plan.now) c.args.node in
    prints_stopped (line []) _ c.from_residual.ensures.0
    (prints_cut (again_line (again_of c.args.again.now) (located_of c.args.at.now) path) _ _
    (prints_cut (blocks_line c.args.blocked) _ _
    (prints_cut (source_lines (located_of c.args.at.now)) _ _
    (prints_cut (place_line (located_of c.args.at.now) c.args.message.now) _ _ c.in_err-line_with_path.ensures))))

pub returns-in_err-place : goal.returns-in_err-place
returns-in_err-place g c =
    let path = path_text (tree_of c.args.plan.now) c.args.node in
    prints_stopped (line []) _ c.from_residual-in_err-place.ensures.0
    (prints_cut (again_line (again_of c.args.again.now) (located_of c.args.at.now) path) _ _
    (prints_cut (blocks_line c.args.blocked) _ _
    (prints_cut (source_lines (located_of c.args.at.now)) _ _ (prints_then _ c.in_ok-line_with_path.ensures c.in_err-place.ensures))))

pub returns-in_err-source_lines : goal.returns-in_err-source_lines
returns-in_err-source_lines g c =
    let path = path_text (tree_of c.args.plan.now) c.args.node in
    let placed = prints_then (Ok tt) c.in_ok-line_with_path.ensures c.in_ok-place.ensures in
    prints_stopped (line []) _ c.from_residual-in_err-source_lines.ensures.0
    (prints_cut (again_line (again_of c.args.again.now) (located_of c.args.at.now) path) _ _
    (prints_cut (blocks_line c.args.blocked) _ _ (prints_then _ placed c.in_err-source_lines.ensures)))

pub returns-in_err-blocks : goal.returns-in_err-blocks
returns-in_err-blocks g c =
    let path = path_text (tree_of c.args.plan.now) c.args.node in
    let placed = prints_then (Ok tt) c.in_ok-line_with_path.ensures c.in_ok-place.ensures in
    prints_stopped (line []) _ c.from_residual-in_err-blocks.ensures.0
    (prints_cut (again_line (again_of c.args.again.now) (located_of c.args.at.now) path) _ _ (prints_then _ (prints_then (Ok tt) placed c.in_ok-source_lines.ensures) c.in_err-blocks.ensures))

pub returns-in_err-command : goal.returns-in_err-command
returns-in_err-command g c =
    let placed = prints_then (Ok tt) c.in_ok-line_with_path.ensures c.in_ok-place.ensures in
    let told = prints_then (Ok tt) (prints_then (Ok tt) placed c.in_ok-source_lines.ensures) c.in_ok-blocks.ensures in
    prints_stopped (line []) _ c.from_residual-in_err-command.ensures.0 (prints_then _ told c.in_err-command.ensures)

pub returns : goal.returns
returns g c =
    let placed = prints_then (Ok tt) c.in_ok-line_with_path.ensures c.in_ok-place.ensures in
    let told = prints_then (Ok tt) (prints_then (Ok tt) placed c.in_ok-source_lines.ensures) c.in_ok-blocks.ensures in
    prints_then _ (prints_then (Ok tt) told c.in_ok-command.ensures) c.bytes.ensures
