use Rattle.std.proofs.Common.{drop}
use Rattle.std.specs.List.{flat_map}
use Rattle.iso_hints.specs.SettingsTexts.{unknown_key_line}
use Rattle.iso_tap.proofs.PrinterLemmas.{LeftToPrint}
use Rattle.iso_hints.proofs.settings.unknown_lines.Given as goal

abbrev pub invariant-loop-key : goal.invariant-loop-key
invariant-loop-key g l = LeftToPrint l.fn.printer l.printer (flat_map unknown_key_line l.unknown) (flat_map unknown_key_line (drop l.key-index l.unknown))
