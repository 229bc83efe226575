use Rattle.std.proofs.Common.{◌++◌, ◌+◌, List, ap, drop, flat_map, map, string_bytes, ◌∙◌}
use Rattle.iso_hints.specs.SettingsTexts.{unknown_key_line}
use Rattle.iso_hints.specs.declared.settings.UnknownKey.{UnknownKey}
use Rattle.iso_explain_settings.specs.Listing.{meant_line}
use Rattle.iso_explain_settings.proofs.ListingLemmas.{more-lines}
use Rattle.iso_explain_settings.proofs.listing.with_meant.Goals as goal

pub loop-key-preserved : goal.loop-key-preserved
loop-key-preserved c =
    let left = flat_map meant_line (map string_bytes (drop (c.loop-key.key-index + 1) c.args.keys.now)) in
    let same = c.in_ok-with_nearest.ensures ∙ ap meant_line (c.as_str.ensures.value ∙ ap string_bytes c.key-item.is) in
    ap (λ (all : List UnknownKey). flat_map unknown_key_line all ++ left) c.in_ok-push.ensures.items
    ∙ more-lines unknown_key_line meant_line string_bytes c.loop-key.unknown.items c.in_ok-with_nearest.field-0 c.args.keys.now c.loop-key.key-index c.key-item.result _ c.loop-key-test.true
    same c.loop-key.invariant
