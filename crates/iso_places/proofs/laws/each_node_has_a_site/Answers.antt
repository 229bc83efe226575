use Rattle.std.proofs.Common.{map}
use Rattle.iso_model.specs.ScriptView.{script_of}
use Rattle.iso_places.proofs.CountLemmas.{each_counted}
use Rattle.iso_places.proofs.laws.each_node_has_a_site.Goals as goal

pub returns : goal.returns
returns c = each_counted (map script_of c.args.scripts.now)
