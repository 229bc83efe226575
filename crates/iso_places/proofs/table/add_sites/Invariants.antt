use Rattle.std.proofs.Common.{◌≡◌, ◌++◌, map, take}
use Rattle.iso_places.specs.Sites.{site_in}
use Rattle.iso_places.proofs.table.add_sites.Given as goal

abbrev pub invariant-places : goal.invariant-places
invariant-places l = l.sites.items ≡ l.initial.sites.items ++ map (site_in l.script) (take l.place-index l.places)
