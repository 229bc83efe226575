use Rattle.std.proofs.Common.{◌≡◌, drop, map, string_bytes}
use Rattle.iso_explain_settings.specs.Warned.{with_unknown}
use Rattle.iso_explain_settings.proofs.warn.warn_unknown.Given as goal

abbrev pub invariant-loop-key : goal.invariant-loop-key
invariant-loop-key l = with_unknown l.warnings l.name (map string_bytes (drop l.key-index l.keys)) ≡ with_unknown l.fn.warnings l.name (map string_bytes l.keys)
