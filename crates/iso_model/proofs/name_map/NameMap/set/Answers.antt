use Rattle.std.proofs.Common.{string_bytes}
use Rattle.iso_model.proofs.NameMapLemmas.{map_of-insert}
use Rattle.iso_model.proofs.name_map.NameMap.set.Goals as goal

pub returns-clause-ok : goal.returns-clause-ok
returns-clause-ok g c = rw (← c.self.view_is) (map_of-insert c.self.inside.entries c.insert.new.self (string_bytes c.args.name) c.args.value c.in_ok-insert.ensures.updates)
