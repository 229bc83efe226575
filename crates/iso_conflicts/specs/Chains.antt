-- Chains: tests that wait for one another, for a key that nodes take, or for the thread of the
-- class of which they are children.
--
-- chain: Of a key the tests of all nodes that take it for READ_WRITE and of the largest that takes
-- it for READ (`tests_in`, `key_chain`); of a class, or the root, those of its children on the same
-- thread (`class_chain`); the longest of all, of several the first, a class's before a key's
-- (`longest`).
use Rattle.std.specs.Prelude.{ℕ, ◌+◌, ◌<◌, List, ◌++◌, Bool, true, false, cond, filter, length, map, nat_lt}
use Rattle.std.specs.List.{count_by, fold, range_with_len, sum_by}
use Rattle.iso_conflicts.specs.Takers.{takers}
use Rattle.iso_conflicts.specs.declared.longest.Chain.{Chain}
use Rattle.iso_conflicts.specs.declared.longest.Shared.{Shared}
use Rattle.iso_conflicts.specs.declared.longest.Shared.TheVariants.{Class, Key}
use Rattle.iso_model.specs.declared.access.Access.TheVariants.{Read, Write}
use Rattle.iso_model.specs.declared.script.Mode.{Mode}
use Rattle.iso_model.specs.declared.script.Mode.TheVariants.{Concurrent, SameThread}
use Rattle.iso_plan.specs.KeyTable.{keys}
use Rattle.iso_plan.specs.Modes.{mode}
use Rattle.iso_plan.specs.NodeChains.{largest}
use Rattle.iso_plan.specs.Paths.{children, is_test, nodes_under, row_at}
use Rattle.iso_plan.specs.Tree.{Row}
use Rattle.iso_settings.specs.declared.settings.Settings.{Settings}

-- how many tests a node is or has in it; 0 for the root
abbrev pub tests_in : List Row → ℕ → ℕ
tests_in tree n = count_by (λ m. is_test (row_at tree m).kind) (nodes_under tree n)

-- the chain of a key: the tests of all nodes that take it for READ_WRITE, and of the largest that
-- takes it for READ
abbrev pub key_chain : List Row → (key : ℕ) → ℕ
key_chain tree key =
    sum_by (tests_in tree) (takers tree Write key)
    + largest (map (tests_in tree) (takers tree Read key))

-- whether a mode is that of a node on its class's thread
abbrev pub is_same_thread : Mode → Bool
is_same_thread SameThread = true
is_same_thread Concurrent = false

-- the chain of a class: the tests of its children on the same thread. That of the root is of
-- top-level classes.
abbrev pub class_chain : List Row → Settings → ℕ → ℕ
class_chain tree s n =
    sum_by (tests_in tree) (filter (λ m. is_same_thread (mode tree s m)) (children tree n))

-- the longer of two chains, the first where they are equal
abbrev pub longer : Chain → Chain → Chain
longer a b = cond (nat_lt a.tests b.tests) b a

-- the chains of the root and all nodes, and of all keys
abbrev pub class_chains : List Row → Settings → (count n : ℕ) → List Chain
class_chains tree s count n =
    map (λ m. record { tests = class_chain tree s m; shared = Class m }) (range_with_len n count)

abbrev pub key_chains : List Row → (count k : ℕ) → List Chain
key_chains tree count k =
    map (λ j. record { tests = key_chain tree j; shared = Key j }) (range_with_len k count)

-- no test, on the thread of the root
abbrev pub no_chain : Chain
no_chain = record { tests = 0; shared = Class 0 }

-- the longest of them; of several the first, a class before a key
abbrev pub longest : List Row → Settings → Chain
longest tree s = fold longer no_chain (class_chains tree s (length tree) 0
    ++ key_chains tree (length (keys tree)) 0)

-- that it is of a node or a key that there is
abbrev pub IsOf : List Row → Shared → Type 0
IsOf tree (Class n) = n < length tree
IsOf tree (Key key) = key < length (keys tree)
