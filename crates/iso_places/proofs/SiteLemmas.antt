-- The sites of a plan's nodes, by their paths.
use Rattle.std.proofs.Common.{◌≡◌, ℕ, zero, suc, ◌+◌, ◌-◌, ◌<◌, List, [], ◌∷◌, ◌++◌, take, drop, length, map, get_or, Option, Some, None, Result, Ok, Err, IfOk, IfErr, add-one, refl, sym, ap, subst, ◌∙◌, arith, inr}
use Rattle.std.proofs.lemmas.List.{append_assoc, drop-append-le, length-map, take_rest}
use Rattle.std.proofs.lemmas.List.FromFn.{get_or-map-range_with_len, length-map-range_with_len, map-range_with_len_more}
use Rattle.std.proofs.lemmas.Option.{slice_get-get_or, slice_get-map}
use Rattle.std.proofs.Math.Seq.{drop-cons}
use Rattle.std.specs.List.{Any, range_with_len, slice_get, zip}
use Rattle.std.specs.Option.{option_map}
use Rattle.iso_model.specs.Scripts.{Script}
use Rattle.iso_places.specs.Located.{AreSites, HasStranger, IsMissing, IsRefusal, site_by_path}
use Rattle.iso_places.specs.Sites.{site_at, site_in, sites_from}
use Rattle.iso_places.specs.declared.fault.LocateError.{LocateError}
use Rattle.iso_places.specs.declared.fault.LocateError.TheVariants.{NoPlace, OutOfMemory}
use Rattle.iso_places.specs.declared.site.Site.{Site}
use Rattle.iso_plan.proofs.ColumnLemmas.{length-column}
use Rattle.iso_plan.specs.Paths.{column}
use Rattle.iso_plan.specs.TopClasses.{all_paths}
use Rattle.iso_plan.specs.PathTexts.{path_text}
use Rattle.iso_plan.specs.KeptNodes.{node_paths}
use Rattle.iso_plan.specs.Tree.{Row, tree}
use Rattle.iso_script.specs.declared.place.NodePlace.{NodePlace}

-- the sites of a script more
pub sites-more : (before : List Site) (lists : List (List NodePlace)) (script : ℕ) → script < length lists
    → (before ++ map (site_in script) (get_or lists script [])) ++ sites_from (script + 1) (drop (script + 1) lists) ≡ before ++ sites_from script (drop script lists)
sites-more before lists script h =
    let next : suc script ≡ script + 1 = omega arith in
    append_assoc before (map (site_in script) (get_or lists script [])) (sites_from (script + 1) (drop (script + 1) lists))
    ∙ sym (ap (λ (rest : List (List NodePlace)). before ++ sites_from script rest) (drop-cons lists script [] h ∙ ap (λ (n : ℕ). get_or lists script [] ∷ drop n lists) next))

some_by : (o r : Option Site) → option_map Some o ≡ Some r → o ≡ r
some_by None r h = absurd (cc)
some_by (Some x) r h = cc

path_at : (plan : List Row) (m : ℕ) → suc m < length plan → slice_get (node_paths plan) m ≡ Some (path_text plan (suc m))
path_at plan m h =
    let count = length-map-range_with_len (path_text plan) 1 (length plan - 1) in
    slice_get-get_or (node_paths plan) m [] (omega arith) ∙ ap Some (get_or-map-range_with_len (path_text plan) 1 (length plan - 1) m (suc m) [] (omega arith) (omega arith))

module _ (nodes : List Row) (all : List Site) (plan : List Row) (rooted : 0 < length plan) where
  abbrev find : List ℕ → Option Site
  find = site_by_path nodes all

  at_node : (sites : List Site) → map Some sites ≡ map find (node_paths plan) → (n : ℕ) → 0 < n → n < length plan → site_at sites n ≡ find (path_text plan n)
  at_node sites are zero pos h = absurd (omega arith)
  at_node sites are (suc m) pos h =
      some_by (slice_get sites m) (find (path_text plan (suc m)))
      (sym (slice_get-map Some sites m) ∙ ap (λ (os : List (Option Site)). slice_get os m) are ∙ slice_get-map find (node_paths plan) m ∙ ap (option_map find) (path_at plan m h))

  pub are-sites : (sites : List Site) → map Some sites ≡ map find (node_paths plan) → AreSites nodes all plan sites
  are-sites sites are =
      let count = length-map-range_with_len (path_text plan) 1 (length plan - 1) in
      let same = sym (length-map sites Some) ∙ ap length are ∙ length-map (node_paths plan) find in
      record { each = omega arith; own = at_node sites are }

  pub stranger : Any (λ path. find path ≡ None) (node_paths plan) → HasStranger nodes all plan
  stranger (k, path, h, is, none) =
      let count = length-map-range_with_len (path_text plan) 1 (length plan - 1) in
      let own : path ≡ path_text plan (suc k) = sym is ∙ get_or-map-range_with_len (path_text plan) 1 (length plan - 1) k (suc k) path (omega arith) (omega arith) in
      record { node = suc k; above = omega arith; within = omega arith; unknown = ap find (sym own) ∙ none }

-- a column without its first
drop_column : {A : Type 0} (f : ℕ → A) (n : ℕ) → drop 1 (column f (suc n)) ≡ map f (range_with_len 1 n)
drop_column f zero = refl
drop_column f (suc n) =
    let some : length (column f (suc n)) ≡ suc n = length-column f (suc n) in
    drop-append-le 1 (column f (suc n)) (f (suc n) ∷ []) (omega arith) ∙ ap (λ xs. xs ++ f (suc n) ∷ []) (drop_column f n)
    ∙ sym (ap (λ (k : ℕ). map f (range_with_len 1 k)) (sym (add-one n)) ∙ map-range_with_len_more f 1 n (suc n) (omega arith))

rest_by : (nodes : List Row) (n : ℕ) → length nodes ≡ n → 0 < n → drop 1 (column (path_text nodes) n) ≡ map (path_text nodes) (range_with_len 1 (n - 1))
rest_by nodes zero e h = absurd (omega arith)
rest_by nodes (suc n) e h = drop_column (path_text nodes) n ∙ ap (λ (k : ℕ). map (path_text nodes) (range_with_len 1 k)) (omega arith)

-- the paths of all nodes, without the first, are those of all but the root
pub paths-but-root : (nodes : List Row) (paths : List (List ℕ)) → 0 < length nodes → paths ≡ all_paths nodes → take (length paths - 1) (drop 1 paths) ≡ node_paths nodes
paths-but-root nodes paths some are = take_rest paths 1 ∙ ap (drop 1) are ∙ rest_by nodes (length nodes) refl some

-- the tree of scripts has a root
pub rooted : (scripts : List Script) → 0 < length (tree scripts)
rooted scripts = omega arith

-- a path that is missing refuses the plan
refuses : (scripts : List Script) (all : List Site) (plan : List Row) (e : LocateError) → 0 < length plan
    → IsMissing (zip (node_paths (tree scripts)) all) (node_paths plan) e → IsRefusal scripts all plan e
refuses scripts all plan NoPlace some missing = inr (stranger (tree scripts) all plan some missing)
refuses scripts all plan OutOfMemory some missing = tt

module _ (scripts : List Script) (all : List Site) (plan : List Row) (paths : List (List ℕ)) (some : 0 < length plan) (are : paths ≡ node_paths plan) where
  pub found : (r : Result (List Site) LocateError) → IfOk r (λ sites. map Some sites ≡ map (site_by_path (tree scripts) all) paths) → IfOk r (AreSites (tree scripts) all plan)
  found (Ok sites) h = are-sites (tree scripts) all plan some sites (h ∙ ap (map (site_by_path (tree scripts) all)) are)
  found (Err e) h = tt

  pub refused : (r : Result (List Site) LocateError) → IfErr r (IsMissing (zip (node_paths (tree scripts)) all) paths) → IfErr r (IsRefusal scripts all plan)
  refused (Ok sites) h = tt
  refused (Err e) h = refuses scripts all plan e some (subst (λ ps. IsMissing (zip (node_paths (tree scripts)) all) ps e) are h)
