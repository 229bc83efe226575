use Rattle.std.proofs.Common.{arith}
use Rattle.iso_model.specs.NameLayers.{given_at}
use Rattle.iso_model.proofs.GivenLemmas.{take-layer-past, take-layer-within}
use Rattle.iso_model.proofs.name_layer.NameLayer.keep.Goals as goal

pub returns-then-count-self : goal.returns-then-count-self
returns-then-count-self c = rw (← c.self.view_is) (take-layer-within (given_at c.self.inside.given) c.args.count c.self.inside.len c.self.inside.names (omega arith))

pub returns-else-count-self : goal.returns-else-count-self
returns-else-count-self c = rw (← c.self.view_is) (take-layer-past (given_at c.self.inside.given) c.args.count c.self.inside.len c.self.inside.names (omega arith) c.self.invariant)
