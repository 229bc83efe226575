-- Groups of keys that all nodes of a plan take alike.
--
-- group of keys: Keys that each node takes in the same access, or none of them (`are_alike`). The
-- lowest of a group is its lead (`lead`), and the locks of a node on such keys are its lead locks
-- (`lead_locks`).
use Rattle.std.specs.Prelude.{◌≡◌, ℕ, ◌<◌, ◌-◌, List, [], ◌∷◌, MatchOption, filter, length, map, Option, Some, None, Bool, ◌&&◌, ◌==◌, cond, false, slice_index_or, take, true, unwrap_or}
use Rattle.std.specs.List.{AllByRecursion, list_all}
use Rattle.iso_model.specs.declared.access.Access.{Access}
use Rattle.iso_model.specs.declared.access.Access.TheVariants.{Read, Write}
use Rattle.iso_plan.specs.Conflicts.{lowest}
use Rattle.iso_plan.specs.Locks.{locks}
use Rattle.iso_plan.specs.Paths.{column}
use Rattle.iso_plan.specs.Rising.{Rise}
use Rattle.iso_plan.specs.Tree.{Row}
use Rattle.iso_plan.specs.declared.key_groups.Groups.{Groups}
use Rattle.iso_plan.specs.declared.lock.Lock.{Lock}

-- the access with which locks take a key, if they do: none takes a key twice
abbrev pub access_on : ℕ → List Lock → Option Access
access_on key [] = None
access_on key (l ∷ ls) = cond (l.key == key) (Some l.access) (access_on key ls)

-- a number for how a key is taken, if it is
abbrev pub way_of : Option Access → ℕ
way_of None = 0
way_of (Some Read) = 1
way_of (Some Write) = 2

-- whether locks take two keys in the same access, or neither
abbrev pub take_alike : List Lock → ℕ → ℕ → Bool
take_alike ls i j = way_of (access_on i ls) == way_of (access_on j ls)

-- whether all of some lists of locks do
abbrev pub all_alike : List (List Lock) → ℕ → ℕ → Bool
all_alike lists i j = list_all (λ ls. take_alike ls i j) lists

-- the lowest key that is taken like a key by all of some lists of locks
abbrev pub lead_in : List (List Lock) → ℕ → ℕ
lead_in lists key = unwrap_or (lowest (all_alike lists key) key) key

-- the locks of all nodes
abbrev pub all_locks : List Row → List (List Lock)
all_locks tree = column (locks tree) (length tree)

-- whether each node takes two keys, by their numbers, in the same access, or neither
abbrev pub are_alike : List Row → ℕ → ℕ → Bool
are_alike tree i j = all_alike (all_locks tree) i j

-- the lead of a key: the lowest key that is alike to it
abbrev pub lead : List Row → ℕ → ℕ
lead tree key = lead_in (all_locks tree) key

-- whether a key is the lead of its group
abbrev pub is_lead : List Row → ℕ → Bool
is_lead tree key = lead tree key == key

-- a node's locks on leads
abbrev pub lead_locks : List Row → ℕ → List Lock
lead_locks tree n = filter (λ l. is_lead tree l.key) (locks tree n)

-- locks stand in the order of their keys, all of them below a number
pub record AreOrdered (keys : ℕ) (ls : List Lock) : Type 0 where
  pub rise : Rise ls
  pub known : AllByRecursion (λ (l : Lock). l.key < keys) ls

-- the lowest key in a key's group that these locks take as they take the key, where leads tell the
-- groups
abbrev pub split_lead : List ℕ → List Lock → ℕ → ℕ
split_lead leads ls key =
    unwrap_or (lowest (λ j. slice_index_or leads j 0 == slice_index_or leads key 0
    && way_of (access_on j ls) == way_of (access_on key ls)) key) key

-- a list is the one before it
pub record IsAsBefore (lists : List (List Lock)) (n : ℕ) : Type 0 where
  pub later : 0 < n
  pub same : slice_index_or lists (n - 1) [] ≡ slice_index_or lists n []

-- each list that is marked is the one before it
pub record AreAsBefore (lists : List (List Lock)) (marks : List Bool) : Type 0 where
  pub each : length marks ≡ length lists
  pub before : (n : ℕ) → n < length lists → slice_index_or marks n false ≡ true
      → IsAsBefore lists n

-- a list splits no group of those before it
abbrev pub IsIdle : List (List Lock) → ℕ → Type 0
IsIdle lists n = (i j : ℕ) → all_alike (take n lists) i j ≡ true
    → take_alike (slice_index_or lists n []) i j ≡ true

-- of some locks those whose key is its own lead, by the leads of keys
abbrev pub on_own : List ℕ → List Lock → List Lock
on_own leads ls = filter (λ l. slice_index_or leads l.key 0 == l.key) ls

-- the groups of so many keys that some lists of locks take alike: the lead of each key, and the
-- locks on leads, or nothing where each key is its own lead
pub record AreGroups (keys : ℕ) (lists : List (List Lock)) (g : Groups) : Type 0 where
  pub leads : g.leads.items ≡ column (lead_in lists) keys
  pub on_leads : MatchOption g.lists ((k : ℕ) → k < keys → lead_in lists k ≡ k)
      (λ v. v.items ≡ map (on_own g.leads.items) lists)
