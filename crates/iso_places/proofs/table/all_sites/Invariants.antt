use Rattle.std.proofs.Common.{◌≡◌, ◌++◌, drop}
use Rattle.iso_places.specs.Sites.{all_sites, places_in, sites_from}
use Rattle.iso_places.proofs.table.all_sites.Given as goal

abbrev pub invariant-scripts : goal.invariant-scripts
invariant-scripts l = l.sites.items ++ sites_from l.script (drop l.script (places_in l.places)) ≡ all_sites (places_in l.places)
