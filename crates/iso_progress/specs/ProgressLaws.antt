-- What a suite keeps beside `SuiteLaws`, so that no run of it is ever stuck.
--
-- laws of waiting: What a suite keeps beside its other laws so that no run of it is stuck: the root
-- is in no node's way; the descendants of a node that is in the way of one that isn't a top-level
-- class wait for none; no node is a child of a test (`ProgressLaws`).
use Rattle.std.specs.Prelude.{◌≡◌, ℕ, true, false}
use Rattle.iso_isolation.specs.Languages.{Language}
use Rattle.iso_isolation.specs.Suites.{Suite, On}

module _ {H K V : Type 0} (x : Suite H K V) where
  -- a node conflicts with none, so that no lock is ever in its way
  abbrev pub WaitsForNone : ℕ → Type 0
  WaitsForNone n = (m : ℕ) → x.conflict m n ≡ false

  -- the root is in no node's way
  abbrev pub RootIsFree : Type 0
  RootIsFree = (n : ℕ) → x.conflict 0 n ≡ false

  -- A node in the way of one that isn't a top-level class has gathered all locks of its own
  -- descendants: these wait for none.
  abbrev pub HoldersGather : Type 0
  HoldersGather = (m n d : ℕ) → x.conflict m n ≡ true → (x.parent n ≡ 0 → ⊥) → On x m d
      → (m ≡ d → ⊥) → WaitsForNone d

module _ {H K V B F R : Type 0} (l : Language H K V B F R) (x : Suite H K V) where
  -- no node is a child of a test
  abbrev pub TestsHoldNone : Type 0
  TestsHoldNone = (n : ℕ) → (n ≡ 0 → ⊥) → (x.parent n ≡ 0 → ⊥)
      → l.is_test (x.head (x.parent n)) ≡ false

  pub record ProgressLaws : Type 0 where
    pub root : RootIsFree x
    pub gathered : HoldersGather x
    pub tests : TestsHoldNone
