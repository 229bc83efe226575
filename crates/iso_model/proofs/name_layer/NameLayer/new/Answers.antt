use Rattle.std.proofs.Common.{length, ap, ◌∙◌}
use Rattle.iso_model.proofs.GivenLemmas.{new-layer}
use Rattle.iso_model.proofs.name_layer.NameLayer.new.Goals as goal

pub returns : goal.returns
returns c = new-layer c.new.result c.len-len.result c.args.names c.new.ensures.empty (c.len-len.ensures.len ∙ ap length c.list.ensures)
