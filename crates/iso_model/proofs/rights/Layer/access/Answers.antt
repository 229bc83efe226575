use Rattle.std.proofs.Common.{sym, ◌∙◌}
use Rattle.iso_model.proofs.LayerLemmas.{access-value}
use Rattle.iso_model.proofs.rights.Layer.access.Goals as goal

pub returns : goal.returns
returns c = c.get_of.ensures ∙ sym (access-value c.args.self.now.entries c.args.key.now)
