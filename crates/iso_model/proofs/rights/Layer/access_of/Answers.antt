use Rattle.std.proofs.Common.{sym, ◌∙◌}
use Rattle.iso_model.proofs.LayerLemmas.{access-value}
use Rattle.iso_model.specs.ResourceKeys.{spelling}
use Rattle.iso_model.proofs.rights.Layer.access_of.Goals as goal

pub returns : goal.returns
returns c = c.get.ensures ∙ sym (access-value c.args.self.now.entries (spelling c.args.resource))
