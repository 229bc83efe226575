-- Counts, a node at a time.
use Rattle.std.specs.Prelude.{ℕ, ◌+◌, ◌<◌, Bool, true, false, ◌&&◌, not}
use Rattle.iso_model.specs.declared.outcome.Verdict.{Verdict}
use Rattle.iso_failures.specs.Nodes.{has_failed, has_passed, was_blocked, was_skipped}
use Rattle.iso_failures.specs.declared.counts.Counts.{Counts}

-- one more where it is so
abbrev pub plus : Bool → ℕ → ℕ
plus true n = n + 1
plus false n = n

-- counts with a test or a class more, which has this verdict
abbrev pub with_node : (is_test : Bool) → Verdict → Counts → Counts
with_node is_test v c =
    record {
      tests = plus is_test c.tests;
      ok = plus (is_test && has_passed v) c.ok;
      skipped = plus (is_test && was_skipped v) c.skipped;
      not_ok = plus (is_test && has_failed v) c.not_ok;
      blocked = plus (is_test && was_blocked v) c.blocked;
      classes = plus (not is_test) c.classes;
      classes_not_ok = plus (not is_test && has_failed v) c.classes_not_ok;
    }

-- each of the counts is below a number
pub record AreBelow (most : ℕ) (c : Counts) : Type 0 where
  pub tests : c.tests < most
  pub ok : c.ok < most
  pub skipped : c.skipped < most
  pub not_ok : c.not_ok < most
  pub blocked : c.blocked < most
  pub classes : c.classes < most
  pub classes_not_ok : c.classes_not_ok < most
