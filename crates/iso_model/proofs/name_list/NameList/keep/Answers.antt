use Rattle.iso_model.proofs.PlaceLemmas.{made-take}
use Rattle.iso_model.proofs.name_list.NameList.keep.Goals as goal

pub invariant_of-self : goal.invariant_of-self
invariant_of-self c = rw c.truncate.ensures.items (made-take c.self.inside.places c.self.inside.bindings.items c.args.count c.self.invariant)
