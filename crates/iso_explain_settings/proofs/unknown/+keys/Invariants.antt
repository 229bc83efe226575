use Rattle.std.proofs.Common.{◌≡◌, string_bytes}
use Rattle.toml.specs.View.{members_view}
use Rattle.iso_settings.specs.Leaves.{leaves_behind}
use Rattle.iso_explain_settings.specs.Unknown.{kept_of, with_keys}
use Rattle.iso_explain_settings.proofs.unknown.+keys.Given as goal

abbrev pub invariant-add_keys-members : goal.invariant-add_keys-members
invariant-add_keys-members l =
    (goal.iterator-add_keys-members).can_next l.name-iterator × (goal.iterator-add_keys-members).is_finite l.name-iterator
    × (string_bytes l.path ≡ string_bytes l.fn.path)
    × (with_keys (kept_of l.unknown) (leaves_behind (string_bytes l.fn.path) (members_view l.name-iterator)) ≡ with_keys (kept_of l.fn.unknown)
    (leaves_behind (string_bytes l.fn.path) (members_view l.table.entries)))
