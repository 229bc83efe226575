-- The sites of a plan's nodes, among those of all nodes of scripts.
--
-- sites of a plan's nodes: Each node stands where the first node of all scripts stands that has its
-- path (`site_by_path`, `AreSites`). None are answered where a node has the path of no node with a
-- place, or where no plan is of the scripts (`HasStranger`, `IsRefusal`). Scripts that were read,
-- with the places of each (`WereRead`).
use Rattle.std.specs.Borrow.{Bor}
use Rattle.std.specs.BTreeMap.{BTreeMap, get_by}
use Rattle.std.specs.Cmp.Lexicographic.{slice_cmp}
use Rattle.std.specs.List.{Any, zip}
use Rattle.std.specs.Map.{lookup}
use Rattle.std.specs.Ordering.{nat_cmp}
use Rattle.std.specs.Prelude.{◌≡◌, ◌≢◌, ◌<◌, ◌+◌, ◌⊎◌, ℕ, List, [], ◌∷◌, Option, None, ⊤, length}
use Rattle.std.specs.Str.{bytes_eq}
use Rattle.iso_model.specs.Scripts.{Script}
use Rattle.iso_places.specs.Sites.{site_at}
use Rattle.iso_places.specs.declared.fault.LocateError.{LocateError}
use Rattle.iso_places.specs.declared.fault.LocateError.TheVariants.{NoPlace, OutOfMemory}
use Rattle.iso_places.specs.declared.site.Site.{Site}
use Rattle.iso_plan.specs.Faults.{scripts_fault, PlanError}
use Rattle.iso_plan.specs.PathTexts.{path_text}
use Rattle.iso_plan.specs.KeptNodes.{node_paths}
use Rattle.iso_plan.specs.Tree.{Row, tree}
use Rattle.iso_model.specs.declared.input_error.InputError.TheVariants as P
use Rattle.iso_script.specs.Grammar.{ReadsPlaced}
use Rattle.iso_script.specs.declared.place.NodePlace.{NodePlace}

-- the site of the first node that has a path, where nodes have these sites, both as they are
-- written
abbrev pub site_by_path : List Row → List Site → List ℕ → Option Site
site_by_path nodes sites path = lookup (bytes_eq path) (zip (node_paths nodes) sites)

-- These are the sites of a plan's nodes but the root: each stands where the first node stands that
-- has its path.
pub record AreSites (nodes : List Row) (all : List Site) (plan : List Row)
    (sites : List Site) : Type 0 where
  pub each : length plan ≡ length sites + 1
  pub own : (n : ℕ) → 0 < n → n < length plan → site_at sites n
      ≡ site_by_path nodes all (path_text plan n)

-- a node of a plan whose path no node with a site has
pub record HasStranger (nodes : List Row) (all : List Site) (plan : List Row) : Type 0 where
  pub node : ℕ
  pub above : 0 < node
  pub within : node < length plan
  pub unknown : site_by_path nodes all (path_text plan node) ≡ None

-- why the sites of a plan's nodes are not found: one is no node of these scripts that has a site,
-- or no plan is of these scripts, or memory ran out
abbrev pub IsRefusal : List Script → List Site → List Row → LocateError → Type 0
IsRefusal scripts all plan NoPlace =
    (scripts_fault scripts ≢ None) ⊎ HasStranger (tree scripts) all plan
IsRefusal scripts all plan OutOfMemory = ⊤

-- what is answered where scripts have no overview
abbrev pub from_plan_error : PlanError → LocateError
from_plan_error (P.Fault fault) = NoPlace
from_plan_error P.OutOfMemory = OutOfMemory

-- a table finds by each path what is the first of these entries that has it
abbrev pub FindsBy : BTreeMap (Bor (List ℕ)) Site → List (List ℕ × Site) → Type 0
FindsBy table entries = (path : List ℕ) → get_by (λ key. slice_cmp nat_cmp path key.now) table
    ≡ lookup (bytes_eq path) entries

-- one of these paths is that of no entry, or memory ran out
abbrev pub IsMissing : List (List ℕ × Site) → List (List ℕ) → LocateError → Type 0
IsMissing entries paths NoPlace = Any (λ path. lookup (bytes_eq path) entries ≡ None) paths
IsMissing entries paths OutOfMemory = ⊤

-- scripts that were read, and the places of the nodes of each
abbrev pub WereRead : List Script → List (List NodePlace) → Type 0
WereRead [] [] = ⊤
WereRead [] (places ∷ more) = ⊥
WereRead (s ∷ ss) [] = ⊥
WereRead (s ∷ ss) (places ∷ more) = ((bytes : List ℕ) × ReadsPlaced bytes s places)
    × WereRead ss more
