use Rattle.std.proofs.Common.{◌≡◌, ◌++◌, ℕ, List, drop, flat_map, map}
use Rattle.toml.specs.View.{table_view}
use Rattle.iso_hints.specs.Settings.{setting_line}
use Rattle.iso_settings.specs.Leaves.{leaves}
use Rattle.iso_explain_settings.specs.Chosen.{setting_text}
use Rattle.iso_explain_settings.proofs.listing.all_settings.Given as goal

abbrev pub invariant-loop-key : goal.invariant-loop-key
invariant-loop-key l =
    flat_map setting_line l.all.items ++ flat_map (λ (key : List ℕ). setting_text key (leaves (table_view l.table)) l.settings.parallel l.settings.default_mode)
    (map (λ k. k.now) (drop l.key-index l.keys))
    ≡ flat_map (λ (key : List ℕ). setting_text key (leaves (table_view l.table)) l.settings.parallel l.settings.default_mode) (map (λ k. k.now) l.keys)
