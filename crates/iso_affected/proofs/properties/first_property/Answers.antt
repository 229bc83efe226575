use Rattle.std.proofs.Common.{◌∙◌}
use Rattle.iso_affected.proofs.PropertyLemmas.{first-of}
use Rattle.iso_affected.proofs.properties.first_property.Goals as goal

pub returns : goal.returns
returns c =
    first-of c.args.before.now c.args.after.now _ _ c.args.names.now c.first_name.result (c.deref.ensures ∙ c.in_ok-was.ensures) (c.deref-2.ensures ∙ c.in_ok-now.ensures)
    c.first_name.ensures
