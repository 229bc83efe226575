use Rattle.iso_model.proofs.NameMapLemmas.{map_of-remove}
use Rattle.iso_model.proofs.name_map.NameMap.clear.Goals as goal

pub returns : goal.returns
returns g c = rw (← c.self.view_is) (map_of-remove c.self.inside.entries c.remove.new.self c.args.name.now c.remove.ensures.updates)
