use Rattle.iso_model.proofs.NameMapLemmas.{IsWithinBut}
use Rattle.iso_model.proofs.name_map.NameMap.is_within.Given as goal

abbrev pub invariant-entries : goal.invariant-entries
invariant-entries g l =
    (goal.iterator-entries g).can_next l.name-iterator × (goal.iterator-entries g).is_finite l.name-iterator
    × IsWithinBut l.self l.other l.name-iterator
