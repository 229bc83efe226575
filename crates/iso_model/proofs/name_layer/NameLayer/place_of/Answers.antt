use Rattle.std.proofs.Common.{◌≡◌, ap, ◌∙◌, arith}
use Rattle.iso_model.specs.NameLayers.{given_at}
use Rattle.iso_model.specs.Names.{place_of}
use Rattle.iso_model.proofs.GivenLemmas.{place-in-layer, place-past-layer}
use Rattle.iso_model.proofs.name_layer.NameLayer.place_of.Goals as goal

pub returns-then-place-self : goal.returns-then-place-self
returns-then-place-self c =
    let names = c.self.inside.names in
    let x = c.args.name.now in
    let place : c.place_of-place.result ≡ place_of names x = c.place_of-place.ensures ∙ ap (λ bs. place_of bs x) c.list.ensures in
    rw (← c.self.view_is) (place ∙ place-in-layer (given_at c.self.inside.given) c.self.inside.len names x (omega (arith, place)))

pub returns-else-place-self : goal.returns-else-place-self
returns-else-place-self c =
    let names = c.self.inside.names in
    let x = c.args.name.now in
    let place : c.place_of-place.result ≡ place_of names x = c.place_of-place.ensures ∙ ap (λ bs. place_of bs x) c.list.ensures in
    rw (← c.self.view_is) (place-past-layer (given_at c.self.inside.given) c.self.inside.len names x (omega (arith, place)))
