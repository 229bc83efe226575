use Rattle.std.proofs.Common.{◌≡◌, ℕ, List, Some, map, take}
use Rattle.std.specs.Map.{lookup}
use Rattle.std.specs.Str.{bytes_eq}
use Rattle.iso_places.specs.Located.{FindsBy}
use Rattle.iso_places.specs.declared.site.Site.{Site}
use Rattle.iso_places.proofs.table.sites_of.Given as goal

abbrev pub invariant-paths : goal.invariant-paths
invariant-paths l =
    (entries : List (List ℕ × Site)) → FindsBy l.table entries → map Some l.sites.items ≡ map (λ (path : List ℕ). lookup (bytes_eq path) entries) (take l.path-index l.paths)
