use Rattle.std.proofs.Common.{List, ℕ, Option, ◌∙◌, ap, sym, unwrap_or}
use Rattle.std.specs.FinMap.{get}
use Rattle.std.specs.Option.{option_copied}
use Rattle.iso_store.proofs.LayerLemmas.{get-properties_over}
use Rattle.iso_store.proofs.layers.Layers.property.Goals as goal

pub returns-in-Some : goal.returns-in-Some
returns-in-Some c =
    let start = c.args.start.now in
    let name = c.args.name.now in
    c.as_ref.ensures.value
    ∙ ap (λ (o : Option (Option (List ℕ))). unwrap_or o (get start name)) (ap option_copied (sym c.in-Some.is) ∙ c.place.ensures)
    ∙ sym (get-properties_over c.args.self.now start name)

pub returns-in-None : goal.returns-in-None
returns-in-None c =
    let start = c.args.start.now in
    let name = c.args.name.now in
    c.get.ensures
    ∙ ap (λ (o : Option (Option (List ℕ))). unwrap_or o (get start name)) (ap option_copied (sym c.in-None.is) ∙ c.place.ensures)
    ∙ sym (get-properties_over c.args.self.now start name)
