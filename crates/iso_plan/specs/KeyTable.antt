-- The keys of a tree, numbered in the order in which they are first marked, the global key first.
--
-- keys: The first of each of the global key and all keys that are marked, in preorder and as the
-- marks are written, whatever they are for (`keys`, `firsts`). The number of a key is its place
-- among them, if it is one (`number_below`); whether pairs have the number of each key
-- (`AreNumbers`).
-- Also in: `KeyNumbers`.
use Rattle.std.specs.Prelude.{ℕ, List, [], ◌∷◌, filter, map, not}
use Rattle.std.specs.List.{flat_map}
use Rattle.std.specs.Str.{bytes_eq}
use Rattle.indexmap.specs.IndexSet.{insert_all}
use Rattle.iso_model.specs.ResourceKeys.{global_key}
use Rattle.iso_model.specs.declared.heads.Mark.{Mark}
use Rattle.iso_plan.specs.Tree.{Kind, root, class_node, test_node, Row}

-- the marks of a node's head: in the tree, its effective marks
abbrev pub kind_marks : Kind → List Mark
kind_marks root = []
kind_marks (class_node isolated head) = head.marks
kind_marks (test_node head) = head.marks

-- the keys that marks name
abbrev pub mark_keys : List Mark → List (List ℕ)
mark_keys marks = map (λ (m : Mark). m.key) marks

-- the keys that are marked on nodes, in the order in which they are written
abbrev pub marked_keys : List Row → List (List ℕ)
marked_keys rows = flat_map (λ (r : Row). mark_keys r.written) rows

-- the first of each of some texts
abbrev pub firsts : List (List ℕ) → List (List ℕ)
firsts [] = []
firsts (k ∷ ks) = k ∷ filter (λ other. not (bytes_eq k other)) (firsts ks)

-- the keys of a tree: the global key and all that are marked on its nodes, each where it isn't
-- there yet, so the first of each (`laws::keys_are_the_first_of_each`). A key's number is its
-- place.
abbrev pub keys : List Row → List (List ℕ)
keys tree = insert_all bytes_eq (global_key ∷ []) (marked_keys tree)
