-- Selection: the nodes that are kept where some are named by their paths, and what stands in their
-- place in a tree.
--
-- selection: Which nodes some paths name, choose with the descendants of these, and keep with the
-- classes around (`is_named`, `is_chosen`, `is_kept`); the tree of the kept nodes, numbered anew
-- (`selection`, `number_among`; of scripts `plan_tree`); the first path that names no node
-- (`first_unknown`).
use Rattle.std.specs.Prelude.{ℕ, zero, suc, List, [], ◌∷◌, ◌++◌, Option, Bool, true, ◌||◌, ◌&&◌, ◌-◌, cond, length, map, not}
use Rattle.std.specs.Borrow.{Bor}
use Rattle.std.specs.List.{list_any, position_from, range_with_len}
use Rattle.iso_model.specs.NameSets.{is_among}
use Rattle.iso_model.specs.Scripts.{Script}
use Rattle.iso_plan.specs.Paths.{is_root, nodes_under, path, row_at}
use Rattle.iso_plan.specs.PathTexts.{path_text}
use Rattle.iso_plan.specs.Tree.{Row, tree}

-- the paths that a caller lends
abbrev pub texts_of : List (Bor (List ℕ)) → List (List ℕ)
texts_of only = map (λ (text : Bor (List ℕ)). text.now) only

-- whether some paths name a node
abbrev pub is_named : List Row → List (List ℕ) → ℕ → Bool
is_named tree only n = not (is_root n) && is_among only (path_text tree n)

-- whether they choose a node: they name it, or one of its enclosing classes
abbrev pub is_chosen : List Row → List (List ℕ) → ℕ → Bool
is_chosen tree only n = list_any (is_named tree only) (path tree n)

-- whether they keep a node: they choose it, or one of its descendants, or it is the root
abbrev pub is_kept_by : List Row → List (List ℕ) → ℕ → Bool
is_kept_by tree only n = is_root n || list_any (is_chosen tree only) (nodes_under tree n)

-- whether a node is kept: where no path is given, all are
abbrev pub is_kept : List Row → List (List ℕ) → ℕ → Bool
is_kept tree [] n = true
is_kept tree (p ∷ ps) n = is_kept_by tree (p ∷ ps) n

-- the numbers below n that pass, in order
abbrev pub those_below : (ℕ → Bool) → ℕ → List ℕ
those_below passes zero = []
those_below passes (suc n) = cond (passes n) (those_below passes n ++ n ∷ []) (those_below passes n)

-- a number anew, where those that don't pass are left out
abbrev pub number_among : (ℕ → Bool) → ℕ → ℕ
number_among passes n = length (those_below passes n)

-- a node whose class has a new number
abbrev pub renumbered : (ℕ → Bool) → Row → Row
renumbered passes r = record r { parent = number_among passes r.parent }

-- the nodes that pass, numbered anew
abbrev pub those_of : (ℕ → Bool) → List Row → List Row
those_of passes tree =
    map (λ n. renumbered passes (row_at tree n)) (those_below passes (length tree))

-- the tree of the kept nodes
abbrev pub selection : List Row → List (List ℕ) → List Row
selection tree [] = tree
selection tree (p ∷ ps) = those_of (is_kept_by tree (p ∷ ps)) tree

-- the paths of the nodes but the root
abbrev pub node_paths : List Row → List (List ℕ)
node_paths tree = map (path_text tree) (range_with_len 1 (length tree - 1))

-- the first path that names no node
abbrev pub first_unknown : List Row → List (List ℕ) → Option ℕ
first_unknown tree only = position_from (λ p. not (is_among (node_paths tree) p)) 0 only

-- the tree of scripts, of which some nodes are kept
abbrev pub plan_tree : List Script → List (List ℕ) → List Row
plan_tree scripts only = selection (tree scripts) only
