use Rattle.std.proofs.Common.{◌∙◌, ap, sym, arith}
use Rattle.std.specs.List.{slice_get}
use Rattle.iso_model.specs.NameLayers.{given_at}
use Rattle.iso_model.specs.Names.{lent}
use Rattle.iso_model.proofs.GivenLemmas.{get-given-in-layer, get-kept-in-layer, get-none-in-layer, get-past-layer}
use Rattle.iso_model.proofs.name_layer.NameLayer.at.Goals as goal

pub returns-then-place-self : goal.returns-then-place-self
returns-then-place-self c = rw (← c.self.view_is) (get-past-layer (given_at c.self.inside.given) c.self.inside.len c.self.inside.names c.args.place (omega arith) c.self.invariant)

pub returns-in_default : goal.returns-in_default
returns-in_default c = rw (← c.self.view_is)
    (get-none-in-layer (given_at c.self.inside.given) c.self.inside.len c.self.inside.names c.args.place (omega arith) (c.in_default.ensures ∙ ap (λ bs. slice_get bs c.args.place) c.list.ensures))

pub returns-in-None : goal.returns-in-None
returns-in-None c =
    rw (← c.self.view_is) (get-kept-in-layer (given_at c.self.inside.given) c.self.inside.len c.self.inside.names c.args.place (lent c.in-Some.binding) (omega arith)
    (sym c.in-None.ensures.value) (c.in-Some.ensures ∙ ap (λ bs. slice_get bs c.args.place) c.list.ensures))

pub returns-in-Some-get : goal.returns-in-Some-get
returns-in-Some-get c =
    rw (← c.self.view_is) (get-given-in-layer (given_at c.self.inside.given) c.self.inside.len c.self.inside.names c.args.place (lent c.in-Some.binding) c.in-Some-get.value.now (omega arith)
    (sym c.in-Some-get.ensures.value) (c.in-Some.ensures ∙ ap (λ bs. slice_get bs c.args.place) c.list.ensures))
