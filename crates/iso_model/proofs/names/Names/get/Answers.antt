use Rattle.std.proofs.Common.{ap, sym, ◌∙◌}
use Rattle.std.specs.List.{slice_get}
use Rattle.iso_model.specs.Environments.{Environment}
use Rattle.iso_model.specs.Names.{place_of}
use Rattle.iso_model.proofs.NameLemmas.{slice_get-place}
use Rattle.iso_model.proofs.names.Names.get.Goals as goal

pub returns-in-Some : goal.returns-in-Some
returns-in-Some c =
    let bs = c.self.inside.bindings in
    let x = c.args.name.now in
    let place = c.in-Some.ensures ∙ ap (λ (e : Environment). place_of e.names x) (sym c.self.view_is) in
    rw (← c.self.view_is) (c.at.ensures ∙ ap (slice_get bs) place ∙ slice_get-place bs x)

pub returns-in-None : goal.returns-in-None
returns-in-None c =
    let bs = c.self.inside.bindings in
    let x = c.args.name.now in
    rw (← c.self.view_is) (c.at-in-None.ensures ∙ ap (slice_get bs) c.place_of.ensures ∙ slice_get-place bs x)
