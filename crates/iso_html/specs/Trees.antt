-- The tree of classes and tests: nested lists, a `details` for each node.
use Rattle.std.specs.Prelude.{ℕ, zero, suc, List, [], ◌++◌, cond, codes, flat_map, length}
use Rattle.iso_junit.specs.Cases.{is_a_test}
use Rattle.iso_junit.specs.Runs.{RunView, place, time}
use Rattle.iso_plan.specs.Paths.{children, row_at}
use Rattle.iso_plan.specs.PathTexts.{path_text}
use Rattle.iso_settings.specs.declared.settings.Settings.{Settings}
use Rattle.iso_tap.specs.Reports.{is_ok}
use Rattle.iso_html.specs.Modes.{mode_text}
use Rattle.iso_html.specs.Nodes.{message_text, name_text, place_text, printed_text, time_text}

-- a node up to its children: what it came to, its title and time, its path and place, its mode
-- and locks, why it didn't pass, and what it printed
abbrev pub opening_text : RunView → Settings → ℕ → List ℕ
opening_text r settings n =
    name_text (is_ok r.tree r.outcome n) (r.outcome n).verdict (row_at r.tree n).title n
    ++ time_text (time r n)
    ++ place_text (path_text r.tree n) (place r n)
    ++ mode_text r.tree settings n
    ++ message_text (r.outcome n).verdict
    ++ printed_text (r.outcome n).output

-- a list of nodes, of which each has a text
abbrev pub list_text : (text : ℕ → List ℕ) → List ℕ → List ℕ
list_text text ns = codes "<ul>\n" ++ flat_map text ns ++ codes "</ul>\n"

-- the children of a class; a test has none
abbrev pub inside_text : RunView → (text : ℕ → List ℕ) → ℕ → List ℕ
inside_text r text n = cond (is_a_test r n) [] (list_text text (children r.tree n))

-- A node with its descendants. The definition counts how deep it may still go, and nodes are nested
-- no deeper than there are nodes; the law `pages_go_down_the_tree` says it without.
abbrev pub node_within : (depth : ℕ) → RunView → Settings → ℕ → List ℕ
node_within zero r settings n = []
node_within (suc depth) r settings n = opening_text r settings n
    ++ inside_text r (node_within depth r settings) n ++ codes "</details></li>\n"

abbrev pub node_text : RunView → Settings → ℕ → List ℕ
node_text r settings = node_within (length r.tree) r settings

-- the tree
abbrev pub tree_text : RunView → Settings → List ℕ
tree_text r settings = list_text (node_text r settings) (children r.tree 0)
