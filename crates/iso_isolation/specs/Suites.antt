-- What a run asks of a suite, its tree of classes and tests with their locks and the starting
-- values, and the laws that it keeps.
--
-- suite, suite laws: What a run asks of a plan with its starting values: parents, paths, heads,
-- modes, locks, conflict; and that locks cover the rights and force modes (`Suite`, `SuiteLaws`).
-- Standard: JUnit 5 User Guide, parallel execution.
use Rattle.std.specs.Prelude.{◌≡◌, ℕ, ◌<◌, Bool, true, List, [], ◌∷◌, map, ◌⊎◌}
use Rattle.iso_isolation.specs.Languages.{Content, Language}

-- Nodes have the numbers below `nodes`; node 0 is the root. H is what is written on a node (a
-- head), K a key, V a value.
pub record Suite (H K V : Type 0) : Type 0 where
  pub nodes : ℕ
  -- the parent of a node; and its path: itself and its enclosing classes,
  -- innermost first, without the root
  pub parent : ℕ → ℕ
  pub path : ℕ → List ℕ
  -- what is written on a node itself, without its members; the root's is on no chain
  pub head : ℕ → H
  -- its execution mode: SAME_THREAD, and not CONCURRENT
  pub is_same_thread : ℕ → Bool
  -- the keys that it takes, and those that it takes for READ_WRITE
  pub takes : ℕ → K → Bool
  pub takes_write : ℕ → K → Bool
  -- whether two nodes take one key, and one of them takes it for READ_WRITE
  pub conflict : ℕ → ℕ → Bool
  -- the starting value of each key
  pub start : Content K V

-- a node at or above another
pub data On {H K V : Type 0} (x : Suite H K V) (d : ℕ) : ℕ → Type 0 where
  same : On x d d
  up : {n : ℕ} → (n ≡ 0 → ⊥) → On x d (x.parent n) → On x d n

-- two nodes take one key, and one of them takes it for READ_WRITE
pub record Shared {H K V : Type 0} (x : Suite H K V) (m n : ℕ) : Type 0 where
  pub key : K
  pub left : x.takes m key ≡ true
  pub right : x.takes n key ≡ true
  pub write : (x.takes_write m key ≡ true) ⊎ (x.takes_write n key ≡ true)

-- the class chain of a node: its head and those of its enclosing classes, innermost first
abbrev pub chain : {H K V : Type 0} → Suite H K V → ℕ → List H
chain x n = map x.head (x.path n)

module _ {H K V B F R : Type 0} (l : Language H K V B F R) (x : Suite H K V) where
  -- whether the bodies of a node may look at a key, and whether they may change it
  abbrev pub may_read : ℕ → K → Bool
  may_read n k = l.reads (chain x n) k

  abbrev pub may_write : ℕ → K → Bool
  may_write n k = l.writes (chain x n) k

  -- a node at or above this one takes the key, and takes it for READ_WRITE where this one may
  -- change it
  pub record Covered (n : ℕ) (k : K) : Type 0 where
    pub by : ℕ
    pub on : On x by n
    pub takes : x.takes by k ≡ true
    pub write : may_write n k ≡ true → x.takes_write by k ≡ true

  -- A tree, in which each node's parent has a smaller number; locks that cover the rights;
  -- and nodes under one that takes a key for READ_WRITE are forced to SAME_THREAD.
  pub record SuiteLaws : Type 0 where
    pub root : x.path 0 ≡ []
    pub path : (n : ℕ) → (n ≡ 0 → ⊥) → x.path n ≡ n ∷ x.path (x.parent n)
    pub below : (n : ℕ) → (n ≡ 0 → ⊥) → x.parent n < n
    pub write_takes : (n : ℕ) (k : K) → x.takes_write n k ≡ true → x.takes n k ≡ true
    pub conflicts : (m n : ℕ) → Shared x m n → x.conflict m n ≡ true
    pub covered : (n : ℕ) (k : K) → may_read n k ≡ true → Covered n k
    pub forced : (m n : ℕ) (k : K) → x.takes_write m k ≡ true → On x m n → (m ≡ n → ⊥)
        → x.is_same_thread n ≡ true
