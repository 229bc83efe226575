use Rattle.std.proofs.Common.{◌++◌, ◌-◌, Ok, codes, length, sym, ◌∙◌}
use Rattle.std.specs.List.{range_with_len}
use Rattle.iso_conflicts.proofs.LineLemmas.{line-of, no-line, word-head}
use Rattle.iso_conflicts.proofs.RangeLemmas.{none-pass, some-pass}
use Rattle.iso_conflicts.specs.ConflictsText.{spaced_paths, takers_line, taking_word}
use Rattle.iso_conflicts.specs.Takers.{takers, takes}
use Rattle.iso_plan.specs.RowView.{tree_of}
use Rattle.iso_tap.proofs.PrinterLemmas.{prints_as, prints_cut, prints_nothing, prints_stopped, prints_then}
use Rattle.iso_conflicts.proofs.conflicts.takers_line.Goals as goal

pub returns-then-not-is_taken : goal.returns-then-not-is_taken
returns-then-not-is_taken g c =
    let plan = c.args.plan.now in
    let tree = tree_of plan in
    let a = c.args.access in
    let none = none-pass (takes tree a c.args.key) (range_with_len 1 (length plan.rows - 1)) (sym c.if-not-is_taken.ensures) in
    prints_as (prints_nothing c.args.printer.now) _ (no-line tree (taking_word a) (takers tree a c.args.key) none)

pub returns-in_err-pieces : goal.returns-in_err-pieces
returns-in_err-pieces g c =
    let plan = c.args.plan.now in
    let tree = tree_of plan in
    let a = c.args.access in
    let ns = takers tree a c.args.key in
    let some = some-pass (takes tree a c.args.key) (range_with_len 1 (length plan.rows - 1)) (sym c.if-not-is_taken.ensures) in
    let head = prints_as c.in_err-pieces.ensures (codes "    " ++ taking_word a ++ codes ":") (word-head (c.as_bytes.ensures.value ∙ c.taking_word.ensures)) in
    prints_as (prints_stopped (codes "\n") _ c.from_residual.ensures.0 (prints_cut (spaced_paths tree ns) _ _ head)) _ (line-of tree (taking_word a) ns some)

pub returns-in_err-taker_paths : goal.returns-in_err-taker_paths
returns-in_err-taker_paths g c =
    let plan = c.args.plan.now in
    let tree = tree_of plan in
    let a = c.args.access in
    let ns = takers tree a c.args.key in
    let some = some-pass (takes tree a c.args.key) (range_with_len 1 (length plan.rows - 1)) (sym c.if-not-is_taken.ensures) in
    let head = prints_as c.in_ok-pieces.ensures (codes "    " ++ taking_word a ++ codes ":") (word-head (c.as_bytes.ensures.value ∙ c.taking_word.ensures)) in
    prints_as (prints_stopped (codes "\n") _ c.from_residual-in_err-taker_paths.ensures.0 (prints_then _ head c.in_err-taker_paths.ensures)) _ (line-of tree (taking_word a) ns some)

pub returns : goal.returns
returns g c =
    let plan = c.args.plan.now in
    let tree = tree_of plan in
    let a = c.args.access in
    let ns = takers tree a c.args.key in
    let some = some-pass (takes tree a c.args.key) (range_with_len 1 (length plan.rows - 1)) (sym c.if-not-is_taken.ensures) in
    let head = prints_as c.in_ok-pieces.ensures (codes "    " ++ taking_word a ++ codes ":") (word-head (c.as_bytes.ensures.value ∙ c.taking_word.ensures)) in
    prints_as (prints_then _ (prints_then (Ok tt) head c.in_ok-taker_paths.ensures) c.bytes.ensures) _ (line-of tree (taking_word a) ns some)
