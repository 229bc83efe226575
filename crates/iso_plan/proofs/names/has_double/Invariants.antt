use Rattle.std.proofs.Common.{◌≡◌, [], drop, take}
use Rattle.iso_plan.proofs.Doubles.{double_after}
use Rattle.iso_model.specs.NameSets.{Knows}
use Rattle.iso_plan.proofs.names.has_double.Given as goal

abbrev pub invariant-names : goal.invariant-names
invariant-names l = record {
  known : Knows l.seen (take l.name-index l.names);
  same : double_after (take l.name-index l.names) (drop l.name-index l.names) ≡ double_after [] l.names;
}
