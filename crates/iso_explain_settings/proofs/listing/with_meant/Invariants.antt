use Rattle.std.proofs.Common.{◌≡◌, ◌++◌, drop, flat_map, map, string_bytes}
use Rattle.iso_hints.specs.SettingsTexts.{unknown_key_line}
use Rattle.iso_explain_settings.specs.Listing.{meant_line}
use Rattle.iso_explain_settings.proofs.listing.with_meant.Given as goal

abbrev pub invariant-loop-key : goal.invariant-loop-key
invariant-loop-key l =
    flat_map unknown_key_line l.unknown.items ++ flat_map meant_line (map string_bytes (drop l.key-index l.keys)) ≡ flat_map meant_line (map string_bytes l.keys)
