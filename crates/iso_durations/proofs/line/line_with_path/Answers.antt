use Rattle.std.proofs.Common.{◌++◌, ◌∷◌, [], List, ap, codes, map, refl}
use Rattle.std.proofs.lemmas.List.{at_drop_all}
use Rattle.std.proofs.lemmas.Result.{err_from_is_err_and}
use Rattle.iso_plan.specs.PathTexts.{path_text}
use Rattle.iso_plan.specs.RowView.{tree_of}
use Rattle.iso_durations.specs.Lines.{line}
use Rattle.iso_durations.specs.Parts.{part_text}
use Rattle.iso_durations.specs.declared.part.Part.{Part}
use Rattle.iso_tap.proofs.PrinterLemmas.{drop_next, left_cut, left_last, left_next, prints_then}
use Rattle.iso_durations.proofs.line.line_with_path.Goals as goal

pub returns-in_err-write_part : goal.returns-in_err-write_part
returns-in_err-write_part g c =
    let p = err_from_is_err_and c.from_residual.result c.from_residual.ensures.1 in
    let after = path_text (tree_of c.args.plan.now) c.args.node ∷ [] in
    let next = ap (λ (ps : List Part). line (map part_text ps ++ after)) (drop_next c.args.before.now c.loop-part.part-index _ c.loop-part-test.true) in
    rw p.1 (left_cut _ _ p.0 next c.loop-part.invariant c.in_err-write_part.ensures)

pub loop-part-preserved : goal.loop-part-preserved
loop-part-preserved g c =
    let after = path_text (tree_of c.args.plan.now) c.args.node ∷ [] in
    let next = ap (λ (ps : List Part). line (map part_text ps ++ after)) (drop_next c.args.before.now c.loop-part.part-index _ c.loop-part-test.true) in
    left_next next c.loop-part.invariant c.in_ok-write_part.ensures

pub returns-in_err-path : goal.returns-in_err-path
returns-in_err-path g c =
    let p = err_from_is_err_and c.from_residual-in_err-path.result c.from_residual-in_err-path.ensures.1 in
    let after = path_text (tree_of c.args.plan.now) c.args.node ∷ [] in
    let left = rw (at_drop_all (λ (ps : List Part). line (map part_text ps ++ after)) c.args.before.now c.loop-part.part-index c.loop-part-test.false) at c.loop-part.invariant in
    rw p.1 (left_cut (codes "\n") _ p.0 refl left c.in_err-path.ensures)

pub returns : goal.returns
returns g c =
    let after = path_text (tree_of c.args.plan.now) c.args.node ∷ [] in
    let left = rw (at_drop_all (λ (ps : List Part). line (map part_text ps ++ after)) c.args.before.now c.loop-part.part-index c.loop-part-test.false) at c.loop-part.invariant in
    left_last c.bytes.result left (prints_then _ c.in_ok-path.ensures c.bytes.ensures)
