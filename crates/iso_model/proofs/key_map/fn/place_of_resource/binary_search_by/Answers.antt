use Rattle.std.proofs.Common.{ap, sym, ◌∙◌}
use Rattle.std.specs.Ordering.{ordering_reverse}
use Rattle.iso_model.proofs.KeyMapLemmas.{back}
use Rattle.iso_model.specs.ResourceKeys.{spelling}
use Rattle.iso_model.proofs.key_map.fn.place_of_resource.binary_search_by.Goals as goal

pub returns : goal.returns
returns g c = c.reverse.ensures ∙ ap ordering_reverse c.order.ensures ∙ sym (back c.args.entry.now.0 (spelling c.captures.resource))
