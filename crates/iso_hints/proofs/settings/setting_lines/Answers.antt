use Rattle.std.proofs.Common.{List, ap}
use Rattle.std.proofs.lemmas.Result.{err_from_is_err_and}
use Rattle.std.specs.List.{flat_map}
use Rattle.iso_hints.specs.Settings.{setting_line}
use Rattle.iso_hints.specs.declared.setting.Setting.{Setting}
use Rattle.iso_tap.proofs.PrinterLemmas.{drop_next, left_cut, left_next}
use Rattle.iso_hints.proofs.settings.setting_lines.Goals as goal

pub returns-in_err-write_setting : goal.returns-in_err-write_setting
returns-in_err-write_setting g c =
    let p = err_from_is_err_and c.from_residual.result c.from_residual.ensures.1 in
    let next = ap (λ (xs : List Setting). flat_map setting_line xs) (drop_next c.args.settings.now c.loop-setting.setting-index _ c.loop-setting-test.true) in
    rw p.1 (left_cut _ _ p.0 next c.loop-setting.invariant c.in_err-write_setting.ensures)

pub loop-setting-preserved : goal.loop-setting-preserved
loop-setting-preserved g c =
    let next = ap (λ (xs : List Setting). flat_map setting_line xs) (drop_next c.args.settings.now c.loop-setting.setting-index _ c.loop-setting-test.true) in
    left_next next c.loop-setting.invariant c.in_ok-write_setting.ensures
