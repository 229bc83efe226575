use Rattle.std.proofs.Common.{drop}
use Rattle.std.specs.List.{zip}
use Rattle.iso_places.specs.Located.{FindsBy}
use Rattle.iso_places.proofs.table.sites_by_path.Given as goal

abbrev pub invariant-nodes : goal.invariant-nodes
invariant-nodes l = FindsBy l.table (drop l.node (zip l.paths l.sites))
