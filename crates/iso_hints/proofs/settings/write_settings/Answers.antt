use Rattle.std.proofs.Common.{Ok}
use Rattle.std.specs.List.{flat_map}
use Rattle.iso_hints.specs.Settings.{workers_line}
use Rattle.iso_hints.specs.SettingsTexts.{more_line, unknown_key_line}
use Rattle.iso_tap.proofs.PrinterLemmas.{prints_cut, prints_stopped, prints_then}
use Rattle.iso_hints.proofs.settings.write_settings.Goals as goal

pub returns-in_err-setting_lines : goal.returns-in_err-setting_lines
returns-in_err-setting_lines g c =
    prints_stopped (workers_line c.args.workers c.args.why.now) _ c.from_residual.ensures.0
    (prints_cut (more_line c.args.more) _ _ (prints_cut (flat_map unknown_key_line c.args.unknown.now) _ _ c.in_err-setting_lines.ensures))

pub returns-in_err-unknown_lines : goal.returns-in_err-unknown_lines
returns-in_err-unknown_lines g c =
    prints_stopped (workers_line c.args.workers c.args.why.now) _ c.from_residual-in_err-unknown_lines.ensures.0
    (prints_cut (more_line c.args.more) _ _ (prints_then _ c.in_ok-setting_lines.ensures c.in_err-unknown_lines.ensures))

pub returns-in_err-more_line : goal.returns-in_err-more_line
returns-in_err-more_line g c =
    prints_stopped (workers_line c.args.workers c.args.why.now) _ c.from_residual-in_err-more_line.ensures.0
    (prints_then _ (prints_then (Ok tt) c.in_ok-setting_lines.ensures c.in_ok-unknown_lines.ensures) c.in_err-more_line.ensures)

pub returns : goal.returns
returns g c =
    prints_then _ (prints_then (Ok tt) (prints_then (Ok tt) c.in_ok-setting_lines.ensures c.in_ok-unknown_lines.ensures) c.in_ok-more_line.ensures)
    c.write_workers.ensures
