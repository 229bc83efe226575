use Rattle.std.proofs.Common.{arith}
use Rattle.iso_model.specs.NameLayers.{given_at}
use Rattle.iso_model.proofs.GivenLemmas.{set-in-layer, set-past-layer}
use Rattle.iso_model.proofs.name_layer.NameLayer.set_value.Goals as goal

pub returns-then-place-self-clause-ok : goal.returns-then-place-self-clause-ok
returns-then-place-self-clause-ok c = rw (← c.self.view_is)
    (set-past-layer (given_at c.self.inside.given) c.self.inside.len c.self.inside.names c.args.place c.args.value (omega arith) c.self.invariant)

pub returns-clause-ok : goal.returns-clause-ok
returns-clause-ok c = rw (← c.self.view_is) (set-in-layer c.self.inside.given c.insert.new.self c.self.inside.len c.self.inside.names c.args.place c.args.value c.in_ok-insert.ensures.updates)
