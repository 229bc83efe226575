use Rattle.std.proofs.Common.{◌∙◌, sym}
use Rattle.iso_model.proofs.NameMapLemmas.{get-map_of}
use Rattle.iso_model.proofs.name_map.NameMap.get.Goals as goal

pub returns : goal.returns
returns g c = rw (← c.self.view_is) (c.get.ensures.value ∙ sym (get-map_of c.self.inside.entries.entries c.args.name.now))
