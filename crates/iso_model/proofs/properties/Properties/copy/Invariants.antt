use Rattle.iso_model.proofs.NameMapLemmas.{Covers}
use Rattle.iso_model.proofs.properties.Properties.copy.Given as goal

abbrev pub invariant-entries : goal.invariant-entries
invariant-entries l =
    (goal.iterator-entries).can_next l.name-iterator × (goal.iterator-entries).is_finite l.name-iterator
    × Covers l.copied l.name-iterator l.self
