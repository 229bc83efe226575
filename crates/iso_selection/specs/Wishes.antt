-- What is asked for, in the order in which it is looked for.
--
-- what is asked for: Paths, then patterns, then the paths of a file (`Wish`, `all_wishes`); the
-- nodes that it names (`is_named_by`, `grants`), where nothing is asked for the top-level classes;
-- the first thing that names no node (`first_in_vain`).
use Rattle.std.specs.Prelude.{ℕ, List, [], ◌∷◌, ◌++◌, Option, None, Some, Bool, false, ◌&&◌, map, not}
use Rattle.std.specs.Borrow.{Bor}
use Rattle.std.specs.List.{list_any, position_from}
use Rattle.std.specs.Str.{bytes_eq}
use Rattle.iso_plan.specs.Paths.{is_root, is_top}
use Rattle.iso_plan.specs.PathTexts.{path_text}
use Rattle.iso_plan.specs.KeptNodes.{node_paths}
use Rattle.iso_plan.specs.Tree.{Row}
use Rattle.iso_selection.specs.Lists.{listed}
use Rattle.iso_selection.specs.Patterns.{is_match}
use Rattle.iso_selection.specs.declared.wanted.Wanted.{Wanted}
use Rattle.iso_selection.specs.declared.wanted.Wanted.TheVariants as W

-- what is asked for: the nodes with a path, or those whose paths a pattern takes in
pub data Wish : Type 0 where
  path : List ℕ → Wish
  pattern : List ℕ → Wish

-- what a caller lends of it
abbrev pub wish_of : Wanted → Wish
wish_of (W.Path text) = path text.now
wish_of (W.Pattern text) = pattern text.now

abbrev pub wishes_of : Option (Bor (List Wanted)) → Option (List Wish)
wishes_of None = None
wishes_of (Some wanted) = Some (map wish_of wanted.now)

-- all that is asked for: paths, then patterns, then the paths that a file lists. Where there is
-- none of these, nothing is asked for.
abbrev pub all_wishes : (only patterns : List (List ℕ)) → Option (List ℕ) → Option (List Wish)
all_wishes [] [] None = None
all_wishes only patterns None = Some (map path only ++ map pattern patterns)
all_wishes only patterns (Some file) =
    Some (map path only ++ (map pattern patterns ++ map path (listed file)))

-- whether a node with this path is asked for
abbrev pub grants : List ℕ → Wish → Bool
grants text (path asked) = bytes_eq text asked
grants text (pattern asked) = is_match asked text

-- the paths that are asked for, and whether a pattern that is takes in a path
abbrev pub paths_in : List Wish → List (List ℕ)
paths_in [] = []
paths_in (path asked ∷ wishes) = asked ∷ paths_in wishes
paths_in (pattern asked ∷ wishes) = paths_in wishes

abbrev pub pattern_grants : List ℕ → Wish → Bool
pattern_grants text (path asked) = false
pattern_grants text (pattern asked) = is_match asked text

-- whether a node is named by what is asked for. Where nothing is asked for, top-level classes are.
abbrev pub is_named_by : List Row → Option (List Wish) → ℕ → Bool
is_named_by tree None n = is_top tree n
is_named_by tree (Some wishes) n = not (is_root n) && list_any (grants (path_text tree n)) wishes

-- whether something that is asked for names no node
abbrev pub is_in_vain : List (List ℕ) → Wish → Bool
is_in_vain paths wish = not (list_any (λ text. grants text wish) paths)

-- the first thing that names no node
abbrev pub first_in_vain : List Row → Option (List Wish) → Option ℕ
first_in_vain tree None = None
first_in_vain tree (Some wishes) = position_from (is_in_vain (node_paths tree)) 0 wishes
