-- The keys of a plan as they are printed: of each the tests of its chain, and the nodes that take
-- it.
--
-- keys with their takers: Of each key its chain and its takers, then the longest chain
-- (`key_lines`, `last_line`, `conflicts_text`).
use Rattle.std.specs.Prelude.{ℕ, List, [], ◌++◌, ◌==◌, cond, codes, length, slice_index_or}
use Rattle.std.specs.Fmt.{decimal}
use Rattle.std.specs.List.{flat_map, range_with_len}
use Rattle.iso_conflicts.specs.Chains.{key_chain, longest}
use Rattle.iso_conflicts.specs.Takers.{takers}
use Rattle.iso_conflicts.specs.declared.longest.Shared.{Shared}
use Rattle.iso_conflicts.specs.declared.longest.Shared.TheVariants.{Class, Key}
use Rattle.iso_model.specs.declared.access.Access.{Access}
use Rattle.iso_model.specs.declared.access.Access.TheVariants.{Read, Write}
use Rattle.iso_plan.specs.KeyTable.{keys}
use Rattle.iso_plan.specs.Paths.{is_root}
use Rattle.iso_plan.specs.PathTexts.{path_text}
use Rattle.iso_plan.specs.Tree.{Row}
use Rattle.iso_settings.specs.declared.settings.Settings.{Settings}

-- a number of tests
abbrev pub counted : ℕ → List ℕ
counted n = decimal n ++ cond (n == 1) (codes " test") (codes " tests")

-- a key, by its number, as it is written
abbrev pub key_text : List Row → ℕ → List ℕ
key_text tree key = slice_index_or (keys tree) key []

-- the paths of some nodes, with a space before each
abbrev pub spaced_paths : List Row → List ℕ → List ℕ
spaced_paths tree ns = flat_map (λ n. codes " " ++ path_text tree n) ns

-- a line of the nodes that take a key, behind a word, where there are any
abbrev pub takers_line : List Row → (word : List ℕ) → (takers : List ℕ) → List ℕ
takers_line tree word ns = cond (length ns == 0) []
    (codes "    " ++ word ++ codes ":" ++ spaced_paths tree ns ++ codes "\n")

-- the word of the line of those that take a key so
abbrev pub taking_word : Access → List ℕ
taking_word Read = codes "read"
taking_word Write = codes "write"

-- the lines of a key
abbrev pub key_lines : List Row → (key : ℕ) → List ℕ
key_lines tree key =
    key_text tree key ++ codes ": longest chain " ++ counted (key_chain tree key) ++ codes "\n"
    ++ takers_line tree (taking_word Write) (takers tree Write key)
    ++ takers_line tree (taking_word Read) (takers tree Read key)

-- what the tests of a chain share: a key, or the thread of a class, or worker 0, on which top-level
-- classes are on the same thread
abbrev pub shared_text : List Row → Shared → List ℕ
shared_text tree (Class n) =
    cond (is_root n) (codes "top-level classes") (codes "class " ++ path_text tree n)
shared_text tree (Key key) = codes "key " ++ key_text tree key

-- the longest chain of all
abbrev pub last_line : List Row → Settings → List ℕ
last_line tree s =
    let c = longest tree s in
    codes "longest chain of all: " ++ counted c.tests ++ codes ", "
    ++ shared_text tree c.shared ++ codes "\n"

-- the lines of keys
abbrev pub keys_lines : List Row → (count key : ℕ) → List ℕ
keys_lines tree count key = flat_map (key_lines tree) (range_with_len key count)

-- all of it: the number of workers, the keys by their numbers, and the longest chain
abbrev pub conflicts_text : List Row → Settings → (workers : ℕ) → List ℕ
conflicts_text tree s workers =
    codes "workers " ++ decimal workers ++ codes "\n" ++ keys_lines tree (length (keys tree)) 0
    ++ last_line tree s
