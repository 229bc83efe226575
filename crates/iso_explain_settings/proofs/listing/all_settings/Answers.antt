use Rattle.std.proofs.Common.{◌++◌, ◌+◌, List, ℕ, ap, drop, flat_map, map, ◌∙◌}
use Rattle.toml.specs.View.{table_view}
use Rattle.iso_hints.specs.Settings.{setting_line}
use Rattle.iso_hints.specs.declared.setting.Setting.{Setting}
use Rattle.iso_settings.specs.Leaves.{leaves}
use Rattle.iso_explain_settings.specs.Chosen.{setting_text}
use Rattle.iso_explain_settings.proofs.ListingLemmas.{more-lines}
use Rattle.iso_explain_settings.proofs.listing.all_settings.Goals as goal

pub loop-key-preserved : goal.loop-key-preserved
loop-key-preserved c =
    let told = λ (key : List ℕ). setting_text key (leaves (table_view c.args.table.now)) c.args.settings.now.parallel c.args.settings.now.default_mode in
    let left = flat_map told (map (λ k. k.now) (drop (c.loop-key.key-index + 1) c.args.keys.now)) in
    ap (λ (all : List Setting). flat_map setting_line all ++ left) c.in_ok-push.ensures.items
    ∙ more-lines setting_line told (λ k. k.now) c.loop-key.all.items c.setting.result c.args.keys.now c.loop-key.key-index _ _ c.loop-key-test.true c.setting.ensures c.loop-key.invariant
