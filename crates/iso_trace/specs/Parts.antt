-- The parts of events, as texts.
use Rattle.std.specs.Prelude.{ℕ, ◌-◌, ◌/◌, ◌%◌, List, [], ◌∷◌, ◌++◌, ◌==◌, ◌||◌, Bool, true, false, cond, codes, length, map, nat_le, slice_index_or}
use Rattle.std.specs.Fmt.{decimal}
use Rattle.iso_model.specs.declared.access.Access.{Access}
use Rattle.iso_model.specs.declared.access.Access.TheVariants.{Read, Write}
use Rattle.iso_plan.specs.Locks.{locks}
use Rattle.iso_plan.specs.PathTexts.{path_text}
use Rattle.iso_plan.specs.Tree.{Row}
use Rattle.iso_plan.specs.declared.lock.Lock.{Lock}
use Rattle.iso_trace.specs.Names.{key_names}
use Rattle.iso_trace.specs.declared.part.Part.{Part}
use Rattle.iso_trace.specs.declared.part.Part.TheVariants.{Plain, Number, Lane, Micros, Between, Node, Wait, Locks, Category, Critical}

-- texts, one after another
abbrev pub joined : List (List ℕ) → List ℕ
joined [] = []
joined (t ∷ ts) = t ++ joined ts

-- nanoseconds in microseconds, with three decimals
abbrev pub micros : ℕ → List ℕ
micros n = decimal (n / 1000) ++ codes "." ++ decimal (n / 100 % 10) ++ decimal (n / 10 % 10)
    ++ decimal (n % 10)

-- a node: its path, which has nothing to escape; a number that is no node's, and the root, have
-- none
abbrev pub node_text : List Row → ℕ → List ℕ
node_text tree n = cond (n == 0 || nat_le (length tree) n) [] (path_text tree n)

-- how a key is taken
abbrev pub access_text : Access → List ℕ
access_text Read = codes "read"
access_text Write = codes "write"

-- a lock among the arguments of an event: its key, and how it is taken
abbrev pub lock_text : List Row → Lock → List ℕ
lock_text tree l =
    codes "," ++ slice_index_or (key_names tree (codes "lock ")) l.key [] ++ codes ":\""
    ++ access_text l.access ++ codes "\""

-- locks, one after another
abbrev pub locks_text : List Row → List Lock → List ℕ
locks_text tree ls = joined (map (lock_text tree) ls)

-- the locks of a node; a number that is no node's has none
abbrev pub node_locks : List Row → ℕ → List ℕ
node_locks tree n = cond (nat_le (length tree) n) [] (locks_text tree (locks tree n))

-- what a wait for a key is called
abbrev pub wait_name : List Row → ℕ → List ℕ
wait_name tree k = slice_index_or (key_names tree (codes "wait ")) k []

-- the categories of a body, critical or not
abbrev pub category : Bool → List ℕ
category true = codes "body,critical"
category false = codes "body"

-- what tells of a critical body among the arguments of its event
abbrev pub critical_argument : Bool → List ℕ
critical_argument true = codes ",\"critical\":true"
critical_argument false = []

-- the text of a part
abbrev pub part_text : List Row → Part → List ℕ
part_text tree (Plain text) = text.now
part_text tree (Number n) = decimal n
part_text tree (Lane n) = decimal n
part_text tree (Micros n) = micros n
part_text tree (Between begin end) = micros (end - begin)
part_text tree (Node n) = node_text tree n
part_text tree (Wait k) = wait_name tree k
part_text tree (Locks n) = node_locks tree n
part_text tree (Category critical) = category critical
part_text tree (Critical critical) = critical_argument critical
