use Rattle.std.proofs.Common.{take}
use Rattle.iso_model.specs.NameSets.{Knows}
use Rattle.iso_script_statements.specs.SeenNames.{texts_in}
use Rattle.iso_script_statements.proofs.seen_names.FewNames.as_set.Given as goal

abbrev pub invariant-names : goal.invariant-names
invariant-names l = Knows l.set (texts_in (take l.name-index l.self.names.items))
