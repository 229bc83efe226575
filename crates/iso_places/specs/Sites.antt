-- The sites of nodes.
--
-- site of a node: In which script it stands, by number from 0, and its place there (`Site`,
-- `site_in`). Of all nodes of scripts each script's places, one script after the other
-- (`all_sites`, `sites_from`). The root has none (`site_at`).
use Rattle.std.specs.Global.{Global}
use Rattle.std.specs.Prelude.{ℕ, zero, suc, ◌+◌, List, [], ◌∷◌, ◌++◌, Option, None, Vec, map}
use Rattle.std.specs.List.{slice_get}
use Rattle.iso_places.specs.declared.site.Site.{Site}
use Rattle.iso_script.specs.declared.place.NodePlace.{NodePlace}

-- the site of a node, of the sites of all nodes but the root, which has none
abbrev pub site_at : List Site → ℕ → Option Site
site_at sites zero = None
site_at sites (suc n) = slice_get sites n

-- a place in a script
abbrev pub site_in : ℕ → NodePlace → Site
site_in script place = record { script = script; place = place }

-- The sites of all nodes of scripts but the root, as they are written, where the first script has
-- this number: each script's places, one script after the other.
abbrev pub sites_from : ℕ → List (List NodePlace) → List Site
sites_from script [] = []
sites_from script (places ∷ more) = map (site_in script) places ++ sites_from (script + 1) more

-- the same, where the first script is number 0
abbrev pub all_sites : List (List NodePlace) → List Site
all_sites places = sites_from 0 places

-- what lists of places hold
abbrev pub places_in : List (Vec NodePlace Global) → List (List NodePlace)
places_in lists = map (λ (places : Vec NodePlace Global). places.items) lists
