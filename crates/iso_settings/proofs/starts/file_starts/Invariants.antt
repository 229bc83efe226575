use Rattle.iso_model.proofs.NameMapLemmas.{Covers}
use Rattle.iso_settings.proofs.starts.file_starts.Given as goal

abbrev pub invariant-entries : goal.invariant-entries
invariant-entries l =
    (goal.iterator-entries).can_next l.path-iterator × (goal.iterator-entries).is_finite l.path-iterator
    × Covers l.files l.path-iterator l.fn.texts
