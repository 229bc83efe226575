-- How many tests and classes there are, and how many of them came to what.
--
-- counts of a run: How many tests there are, and how many of them passed, were skipped, failed and
-- were blocked; how many classes, and how many of these failed by themselves (`counts`), node by
-- node (`with_node`).
-- Also in: `CountingSteps`.
use Rattle.std.specs.Prelude.{ℕ, List, Bool, true, length}
use Rattle.iso_model.specs.declared.outcome.Outcome.{Outcome}
use Rattle.iso_plan.specs.KeptNodes.{those_below}
use Rattle.iso_plan.specs.Tree.{Row}
use Rattle.iso_failures.specs.Nodes.{has_failed, has_passed, is_class_with, is_test_with, was_blocked, was_skipped}
use Rattle.iso_failures.specs.declared.counts.Counts.{Counts}

-- how many of the numbers below n pass
abbrev pub how_many : (ℕ → Bool) → ℕ → ℕ
how_many passes n = length (those_below passes n)

-- the counts of the nodes below n: their tests, and of these those that passed, were skipped,
-- failed and were blocked; their classes, and of these those that failed by themselves
abbrev pub counts_below : List Row → (ℕ → Outcome) → ℕ → Counts
counts_below tree outcome n =
    record {
      tests = how_many (is_test_with tree outcome (λ verdict. true)) n;
      ok = how_many (is_test_with tree outcome has_passed) n;
      skipped = how_many (is_test_with tree outcome was_skipped) n;
      not_ok = how_many (is_test_with tree outcome has_failed) n;
      blocked = how_many (is_test_with tree outcome was_blocked) n;
      classes = how_many (is_class_with tree outcome (λ verdict. true)) n;
      classes_not_ok = how_many (is_class_with tree outcome has_failed) n;
    }

-- the counts of a tree
abbrev pub counts : List Row → (ℕ → Outcome) → Counts
counts tree outcome = counts_below tree outcome (length tree)
