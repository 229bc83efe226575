use Rattle.std.proofs.Common.{List, ap}
use Rattle.std.proofs.lemmas.Result.{err_from_is_err_and}
use Rattle.std.specs.List.{flat_map}
use Rattle.iso_hints.specs.SettingsTexts.{unknown_key_line}
use Rattle.iso_hints.specs.declared.settings.UnknownKey.{UnknownKey}
use Rattle.iso_tap.proofs.PrinterLemmas.{drop_next, left_cut, left_next}
use Rattle.iso_hints.proofs.settings.unknown_lines.Goals as goal

pub returns-in_err-write_unknown_key : goal.returns-in_err-write_unknown_key
returns-in_err-write_unknown_key g c =
    let p = err_from_is_err_and c.from_residual.result c.from_residual.ensures.1 in
    let next = ap (λ (xs : List UnknownKey). flat_map unknown_key_line xs) (drop_next c.args.unknown.now c.loop-key.key-index _ c.loop-key-test.true) in
    rw p.1 (left_cut _ _ p.0 next c.loop-key.invariant c.in_err-write_unknown_key.ensures)

pub loop-key-preserved : goal.loop-key-preserved
loop-key-preserved g c =
    let next = ap (λ (xs : List UnknownKey). flat_map unknown_key_line xs) (drop_next c.args.unknown.now c.loop-key.key-index _ c.loop-key-test.true) in
    left_next next c.loop-key.invariant c.in_ok-write_unknown_key.ensures
