-- How large top-level classes are.
use Rattle.std.specs.Prelude.{ℕ, List, [], ◌∷◌, ◌++◌, Bool, ◌&&◌, ◌==◌, codes, cond, drop, length, map, nat_lt, slice_index_or}
use Rattle.std.specs.Fmt.{decimal}
use Rattle.std.specs.List.{prefix_len}
use Rattle.iso_plan.specs.KeptNodes.{those_below}
use Rattle.iso_explain_plan.specs.Notes.{note}
use Rattle.iso_explain_plan.specs.Parts.{shown}
use Rattle.iso_explain_plan.specs.declared.size.Size.{Size}

-- how many of the first numbers are this one
abbrev pub run_length : List ℕ → ℕ → ℕ
run_length numbers number = prefix_len (λ c. c == number) numbers

-- how many nodes from one on have it as their top-level class: they stand one behind another
abbrev pub nodes_from : List ℕ → ℕ → ℕ
nodes_from classes n = run_length (drop n classes) n

-- whether a node is its own top-level class; the root is none
abbrev pub is_own : List ℕ → ℕ → Bool
is_own classes n = nat_lt 0 n && slice_index_or classes n 0 == n

-- a path with a number, of the code's
abbrev pub size_of : Size → List ℕ × ℕ
size_of size = (size.path.now, size.count)

-- the path of a node with how many nodes have it as their top-level class
abbrev pub sized : (paths : List (List ℕ)) → (classes : List ℕ) → ℕ → List ℕ × ℕ
sized paths classes n = (slice_index_or paths n [], nodes_from classes n)

-- the same, if it is a top-level class
abbrev pub if_own : (paths : List (List ℕ)) → (classes : List ℕ) → ℕ → List (List ℕ × ℕ)
if_own paths classes n = cond (is_own classes n) (sized paths classes n ∷ []) []

-- the top-level classes with their numbers of nodes, in written order, from the path and the
-- top-level class of each node
abbrev pub all_sizes : (paths : List (List ℕ)) → (classes : List ℕ) → List (List ℕ × ℕ)
all_sizes paths classes = map (sized paths classes) (those_below (is_own classes) (length classes))

-- how many of them a class has
abbrev pub size_note : Size → List ℕ
size_note size =
    note (shown size.path.now ∷ codes " has " ∷ decimal size.count ∷ codes " of them" ∷ [])

abbrev pub sizes_notes : List Size → List ℕ
sizes_notes [] = []
sizes_notes (size ∷ sizes) = size_note size ++ sizes_notes sizes
