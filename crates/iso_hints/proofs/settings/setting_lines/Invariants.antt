use Rattle.std.proofs.Common.{drop}
use Rattle.std.specs.List.{flat_map}
use Rattle.iso_hints.specs.Settings.{setting_line}
use Rattle.iso_tap.proofs.PrinterLemmas.{LeftToPrint}
use Rattle.iso_hints.proofs.settings.setting_lines.Given as goal

abbrev pub invariant-loop-setting : goal.invariant-loop-setting
invariant-loop-setting g l = LeftToPrint l.fn.printer l.printer (flat_map setting_line l.settings) (flat_map setting_line (drop l.setting-index l.settings))
