use Rattle.std.proofs.Common.{◌≡◌}
use Rattle.toml.specs.View.{members_view}
use Rattle.iso_settings.specs.Worlds.{empty_start, with_entries}
use Rattle.iso_settings.proofs.world.World.of_table.Given as goal

abbrev pub invariant-entries : goal.invariant-entries
invariant-entries l =
    (goal.iterator-entries).can_next l.key-iterator × (goal.iterator-entries).is_finite l.key-iterator
    × (with_entries l.world (members_view l.key-iterator) ≡ with_entries empty_start (members_view l.table.entries))
