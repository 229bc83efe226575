-- How many tests have which fate.
use Rattle.std.specs.Prelude.{ℕ, ◌<◌, ◌^◌, List, Bool, true, false, ◌&&◌, count_by, length, slice_index_or}
use Rattle.iso_affected.specs.declared.affected.Fate.{Fate}
use Rattle.iso_affected.specs.declared.affected.Fate.TheVariants as F
use Rattle.iso_affected.specs.declared.counts.Counts.{Counts}
use Rattle.iso_affected.specs.declared.counts.FateKind.{FateKind}
use Rattle.iso_affected.specs.declared.counts.FateKind.TheVariants as K
use Rattle.iso_plan.specs.Paths.{is_test, row_at}
use Rattle.iso_plan.specs.KeptNodes.{those_below}
use Rattle.iso_plan.specs.Tree.{Row}

-- whether a node is a test
abbrev pub is_test_at : List Row → ℕ → Bool
is_test_at tree n = is_test (row_at tree n).kind

-- whether a fate is of a kind
abbrev pub is_kind : FateKind → Fate → Bool
is_kind K.Same (F.Same m) = true
is_kind K.Changed (F.Changed m) = true
is_kind K.New F.New = true
is_kind kind fate = false

-- whether a node is a test with a fate of a kind
abbrev pub is_test_of : List Row → List Fate → FateKind → ℕ → Bool
is_test_of tree fates kind n = is_test_at tree n && is_kind kind (slice_index_or fates n F.New)

-- how many tests have a fate of a kind
abbrev pub tests_of : List Row → List Fate → FateKind → ℕ
tests_of tree fates kind = length (those_below (is_test_of tree fates kind) (length tree))

-- how many tests of the new suite have which fate, and how many of the old suite are gone
abbrev pub counts : (old new : List Row) → List Fate → (gone : List ℕ) → Counts
counts old new fates gone =
    record {
      same = tests_of new fates K.Same;
      changed = tests_of new fates K.Changed;
      new = tests_of new fates K.New;
      gone = count_by (is_test_at old) gone;
    }

-- each count fits 32 bits
pub record AreFew (c : Counts) : Type 0 where
  pub same : c.same < 2 ^ 32
  pub changed : c.changed < 2 ^ 32
  pub new : c.new < 2 ^ 32
  pub gone : c.gone < 2 ^ 32
