-- The locks that a node takes: its own and its descendants' marks, gathered at the locking node.
--
-- locks: The outermost declaring node of a path is its locking node (`locking_node`); it takes what
-- is marked on it and below it (`nodes_under`, `gathered`), each key in the strongest access, and a
-- top-level class the global key besides (`taken`, `locks`); nodes conflict where they take one key
-- and one of them for READ_WRITE (`conflict`). A node's marks are asked for through one word,
-- `effective_marks`.
-- Standard: JUnit 5 User Guide, parallel execution (`@ResourceLock`, `@Isolated`); the gathering is
-- this project's.
use Rattle.std.specs.Prelude.{ℕ, suc, List, [], ◌∷◌, ◌++◌, length, map, Option, Some, None, Bool, false, ◌||◌, ◌&&◌, ◌==◌, not, cond}
use Rattle.std.specs.List.{flat_map, list_any}
use Rattle.std.specs.Str.{bytes_eq}
use Rattle.iso_model.specs.ResourceKeys.{global_key}
use Rattle.iso_model.specs.Rights.{Rights, strongest, rights_of, is_writable}
use Rattle.iso_model.specs.declared.access.Access.{Access}
use Rattle.iso_model.specs.declared.access.Access.TheVariants.{Read, Write}
use Rattle.iso_model.specs.declared.heads.Mark.{Mark}
use Rattle.iso_plan.specs.KeyTable.{keys, kind_marks}
use Rattle.iso_plan.specs.Paths.{row_at, path, is_top, nodes_under, outermost}
use Rattle.iso_plan.specs.Tree.{Kind, root, class_node, test_node, Row}
use Rattle.iso_plan.specs.declared.lock.Lock.{Lock}

-- the marks that count for a node
abbrev pub effective_marks : List Row → ℕ → List Mark
effective_marks tree n = kind_marks (row_at tree n).kind

-- what a node declares of its own
abbrev pub declared : List Row → ℕ → Rights
declared tree n = rights_of (effective_marks tree n)

-- whether a class is isolated
abbrev pub is_isolated : Kind → Bool
is_isolated root = false
is_isolated (class_node isolated head) = isolated
is_isolated (test_node head) = false

-- whether marks name the global key, which no script that was read does
abbrev pub marks_global : List Mark → Bool
marks_global marks = list_any (λ (m : Mark). bytes_eq global_key m.key) marks

-- whether a node asks for isolation: an isolated class, or a node that is marked with the global
-- key itself
abbrev pub isolates : List Row → ℕ → Bool
isolates tree n = is_isolated (row_at tree n).kind || marks_global (effective_marks tree n)

-- whether a node is a top-level class that is isolated, or holds an isolated class at any depth
abbrev pub holds_isolated : List Row → ℕ → Bool
holds_isolated tree n = is_top tree n && list_any (isolates tree) (nodes_under tree n)

-- whether a node is marked
abbrev pub is_marked : List Row → ℕ → Bool
is_marked tree n = not (length (effective_marks tree n) == 0)

-- whether a node would lock for all its descendants: it is marked, or it is a top-level class
-- that holds an isolated one
abbrev pub declares : List Row → ℕ → Bool
declares tree n = holds_isolated tree n || is_marked tree n

-- the locking node of a node's path: the outermost one on it that declares
abbrev pub locking_node : List Row → ℕ → Option ℕ
locking_node tree n = outermost (declares tree) (path tree n)

-- whether an option is this number
abbrev pub is_that : Option ℕ → ℕ → Bool
is_that None m = false
is_that (Some n) m = n == m

-- whether a node is the locking node of its own path
abbrev pub is_locking : List Row → ℕ → Bool
is_locking tree n = is_that (locking_node tree n) n

-- what is marked at or under a node: each key in the strongest access
abbrev pub gathered : List Row → ℕ → Rights
gathered tree n = rights_of (flat_map (effective_marks tree) (nodes_under tree n))

-- the access with which a top-level class takes the global key: READ_WRITE where it holds an
-- isolated class, else READ
abbrev pub global_access : List Row → ℕ → List ℕ → Option Access
global_access tree n k =
    cond (is_top tree n && bytes_eq global_key k)
    (Some (cond (holds_isolated tree n) Write Read)) None

-- the access with which a node takes a key, if it does: a locking node takes what is marked on it
-- and below it, and a top-level class the global key besides
abbrev pub taken : List Row → ℕ → Rights
taken tree n k =
    strongest (global_access tree n k) (cond (is_locking tree n) (gathered tree n k) None)

-- a lock, if there is one
abbrev pub lock_of : ℕ → Option Access → List Lock
lock_of key None = []
lock_of key (Some a) = record { key = key; access = a } ∷ []

-- the locks of accesses by key number, where the first key has number i
abbrev pub locks_from : ℕ → List (Option Access) → List Lock
locks_from i [] = []
locks_from i (a ∷ rest) = lock_of i a ++ locks_from (suc i) rest

-- the locks that a node takes, by the number of the key
abbrev pub locks : List Row → ℕ → List Lock
locks tree n = locks_from 0 (map (taken tree n) (keys tree))

-- whether a lock is for READ_WRITE
abbrev pub is_write : Lock → Bool
is_write l = is_writable (Some l.access)

-- whether a node takes a key for READ_WRITE
abbrev pub takes_write : List Row → ℕ → Bool
takes_write tree n = list_any is_write (locks tree n)

-- whether two accesses to one key exclude each other
abbrev pub exclude : Option Access → Option Access → Bool
exclude None b = false
exclude (Some a) None = false
exclude (Some a) (Some b) = is_writable (Some a) || is_writable (Some b)

-- whether two nodes conflict: they take one key, and one of them takes it for READ_WRITE
abbrev pub conflict : List Row → ℕ → ℕ → Bool
conflict tree m n = list_any (λ k. exclude (taken tree m k) (taken tree n k)) (keys tree)
