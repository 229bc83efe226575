use Rattle.std.proofs.Common.{◌+◌, ap, drop, flat_map, get_or, ◌∙◌}
use Rattle.std.proofs.lemmas.List.{at_drop_all}
use Rattle.std.proofs.lemmas.Result.{err_from_is_err_and}
use Rattle.iso_summary.specs.Entries.{hint_line}
use Rattle.iso_tap.proofs.PrinterLemmas.{drop_next, left_cut, left_end, left_next, prints_as}
use Rattle.iso_summary.proofs.entry.hints.Goals as goal

pub returns-in_err-line : goal.returns-in_err-line
returns-in_err-line g c =
    let hints = c.args.at.now.hints.now in
    let i = c.loop-hint.hint-index in
    let d = c.hint-item.result in
    let p = err_from_is_err_and c.from_residual.result c.from_residual.ensures.1 in
    let next = ap (flat_map hint_line) (drop_next hints i d c.loop-hint-test.true) in
    let one = prints_as c.in_err-line.ensures (hint_line (get_or hints i d)) (ap hint_line (c.as_str.ensures ∙ c.hint-item.is)) in
    rw p.1 (left_cut (flat_map hint_line (drop (i + 1) hints)) _ p.0 next c.loop-hint.invariant one)

pub loop-hint-preserved : goal.loop-hint-preserved
loop-hint-preserved g c =
    let hints = c.args.at.now.hints.now in
    let i = c.loop-hint.hint-index in
    let d = c.hint-item.result in
    let next = ap (flat_map hint_line) (drop_next hints i d c.loop-hint-test.true) in
    let one = prints_as c.in_ok-line.ensures (hint_line (get_or hints i d)) (ap hint_line (c.as_str.ensures ∙ c.hint-item.is)) in
    left_next next c.loop-hint.invariant one

pub returns : goal.returns
returns g c = left_end (rw (at_drop_all (flat_map hint_line) c.args.at.now.hints.now c.loop-hint.hint-index c.loop-hint-test.false) at c.loop-hint.invariant)
