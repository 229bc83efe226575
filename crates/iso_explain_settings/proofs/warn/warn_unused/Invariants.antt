use Rattle.std.proofs.Common.{◌≡◌, drop, map}
use Rattle.toml.specs.View.{table_view}
use Rattle.iso_settings.specs.Leaves.{leaves}
use Rattle.iso_explain_settings.specs.Warned.{with_unused_keys}
use Rattle.iso_explain_settings.proofs.warn.warn_unused.Given as goal

abbrev pub invariant-loop-key : goal.invariant-loop-key
invariant-loop-key l =
    with_unused_keys l.warnings l.name (leaves (table_view l.table)) l.is_parallel (map (λ k. k.now) (drop l.key-index l.keys)) ≡ with_unused_keys l.fn.warnings l.name
    (leaves (table_view l.table)) l.is_parallel (map (λ k. k.now) l.keys)
