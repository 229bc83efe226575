-- The plan as it is printed: the number of workers, then a line for each node: its number, its
-- kind, its execution mode, the locks that it takes, and its path.
--
-- the printed plan: The number of workers, then for each node but the root its number, kind,
-- execution mode, locks and path (`plan_text`, `node_line`, `node_fields`).
use Rattle.std.specs.Prelude.{ℕ, zero, suc, ◌-◌, List, [], ◌++◌, cond, codes, length, slice_index_or}
use Rattle.std.specs.Fmt.{decimal}
use Rattle.std.specs.List.{join_by}
use Rattle.iso_model.specs.declared.access.Access.{Access}
use Rattle.iso_model.specs.declared.access.Access.TheVariants.{Read, Write}
use Rattle.iso_model.specs.declared.script.Mode.{Mode}
use Rattle.iso_model.specs.declared.script.Mode.TheVariants.{SameThread, Concurrent}
use Rattle.iso_plan.specs.KeyTable.{keys}
use Rattle.iso_plan.specs.Locks.{locks}
use Rattle.iso_plan.specs.Modes.{mode}
use Rattle.iso_plan.specs.Paths.{is_test, row_at}
use Rattle.iso_plan.specs.PathTexts.{path_text}
use Rattle.iso_plan.specs.Tree.{Kind, Row}
use Rattle.iso_plan.specs.declared.lock.Lock.{Lock}
use Rattle.iso_settings.specs.declared.settings.Settings.{Settings}

-- the word of what a node is; one that is printed is a class or a test
abbrev pub kind_word : Kind → List ℕ
kind_word k = cond (is_test k) (codes "test") (codes "class")

-- the word of an execution mode, as scripts have it
abbrev pub mode_word : Mode → List ℕ
mode_word SameThread = codes "same_thread"
mode_word Concurrent = codes "concurrent"

-- how a key is taken: for READ or for READ_WRITE
abbrev pub access_word : Access → List ℕ
access_word Read = codes "r:"
access_word Write = codes "w:"

-- a lock, with the spelling of its key
abbrev pub lock_text : (keys : List (List ℕ)) → Lock → List ℕ
lock_text keys l = access_word l.access ++ slice_index_or keys l.key []

-- locks, with commas between them
abbrev pub locks_text : (keys : List (List ℕ)) → List Lock → List ℕ
locks_text keys ls = join_by (lock_text keys) (codes ",") ls

-- the line of a node, without its end
abbrev pub node_fields : List Row → Settings → ℕ → List ℕ
node_fields tree s n =
    decimal n ++ codes " " ++ kind_word (row_at tree n).kind ++ codes " "
    ++ mode_word (mode tree s n) ++ codes " ["
    ++ locks_text (keys tree) (locks tree n) ++ codes "] " ++ path_text tree n

-- the line of a node
abbrev pub node_line : List Row → Settings → ℕ → List ℕ
node_line tree s n = node_fields tree s n ++ codes "\n"

-- the lines of `count` nodes, of which the first has number n
abbrev pub node_lines : List Row → Settings → (count n : ℕ) → List ℕ
node_lines tree s zero n = []
node_lines tree s (suc count) n = node_line tree s n ++ node_lines tree s count (suc n)

-- the line of a node that is a test, and nothing for a class
abbrev pub test_line : List Row → Settings → ℕ → List ℕ
test_line tree s n = cond (is_test (row_at tree n).kind) (node_line tree s n) []

-- what `count` nodes have of such lines, of which the first has number n
abbrev pub test_lines : List Row → Settings → (count n : ℕ) → List ℕ
test_lines tree s zero n = []
test_lines tree s (suc count) n = test_line tree s n ++ test_lines tree s count (suc n)

-- the tests of a plan: the lines that they have in it, and no other
abbrev pub tests_text : List Row → Settings → List ℕ
tests_text tree s = test_lines tree s (length tree - 1) 1

-- the plan: all nodes but the root
abbrev pub plan_text : List Row → Settings → (workers : ℕ) → List ℕ
plan_text tree s workers =
    codes "workers " ++ decimal workers ++ codes "\n" ++ node_lines tree s (length tree - 1) 1
