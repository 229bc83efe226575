use Rattle.iso_model.specs.NameLayers.{given_at}
use Rattle.iso_model.proofs.GivenLemmas.{length-layer}
use Rattle.iso_model.proofs.name_layer.NameLayer.len.Goals as goal

pub returns : goal.returns
returns c = rw (← c.self.view_is) (length-layer (given_at c.self.inside.given) c.self.inside.len c.self.inside.names c.self.invariant)
