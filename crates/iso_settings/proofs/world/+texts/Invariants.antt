use Rattle.std.proofs.Common.{◌≡◌, string_bytes}
use Rattle.toml.specs.View.{members_view}
use Rattle.iso_settings.specs.Leaves.{leaves_behind}
use Rattle.iso_settings.specs.Worlds.{texts_of}
use Rattle.iso_settings.proofs.world.+texts.Given as goal

abbrev pub invariant-add_texts-members : goal.invariant-add_texts-members
invariant-add_texts-members l =
    (goal.iterator-add_texts-members).can_next l.name-iterator × (goal.iterator-add_texts-members).is_finite l.name-iterator
    × (string_bytes l.path ≡ string_bytes l.fn.path)
    × (texts_of l.top l.texts (leaves_behind (string_bytes l.fn.path) (members_view l.name-iterator)) ≡ texts_of l.top l.fn.texts
    (leaves_behind (string_bytes l.fn.path) (members_view l.table.entries)))
