use Rattle.std.proofs.Common.{Option, sym, ap, ◌∙◌}
use Rattle.std.specs.Option.{option_or}
use Rattle.iso_model.proofs.LayerLemmas.{access-both}
use Rattle.iso_model.specs.Rights.{access_in}
use Rattle.iso_model.specs.declared.access.Access.{Access}
use Rattle.iso_model.proofs.rights.Layer.known.Goals as goal

pub returns-in-Some : goal.returns-in-Some
returns-in-Some c =
    let key = c.args.key.now in
    sym (access-both c.args.self.now.entries c.args.outer.now key ∙ ap (λ (o : Option Access). option_or o (access_in c.args.outer.now key)) (sym c.access.ensures ∙ c.in-Some.is))

pub returns-in-None : goal.returns-in-None
returns-in-None c =
    let key = c.args.key.now in
    c.access-in-None.ensures ∙ sym (access-both c.args.self.now.entries c.args.outer.now key
    ∙ ap (λ (o : Option Access). option_or o (access_in c.args.outer.now key)) (sym c.access.ensures ∙ c.in-None.is))
