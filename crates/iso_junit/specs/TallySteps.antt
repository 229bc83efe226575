-- Counts, a testcase at a time.
use Rattle.std.specs.Prelude.{ℕ, ◌+◌, ◌<◌, Option, None, Some, Bool, cond, min, unwrap_or}
use Rattle.iso_failures.specs.Nodes.{was_skipped}
use Rattle.iso_model.specs.declared.outcome.Verdict.{Verdict}
use Rattle.iso_junit.specs.Tallies.{is_error, is_fail}
use Rattle.iso_junit.specs.Times.{greatest}
use Rattle.iso_junit.specs.declared.tally.Tally.{Tally}

-- one more where it is so
abbrev pub plus : Bool → ℕ → ℕ
plus more n = cond more (n + 1) n

-- a sum of times with one more, where it was measured
abbrev pub added : Option ℕ → Option ℕ → Option ℕ
added sum None = sum
added sum (Some t) = Some (min (unwrap_or sum 0 + t) greatest)

-- counts with a testcase more, which has this verdict and took this time
abbrev pub with_case : Verdict → Option ℕ → Tally → Tally
with_case v t c =
    record {
      tests = c.tests + 1;
      failures = plus (is_fail v) c.failures;
      errors = plus (is_error v) c.errors;
      skipped = plus (was_skipped v) c.skipped;
      time = added c.time t;
    }

-- each of the counts is below a number
pub record AreBelow (most : ℕ) (c : Tally) : Type 0 where
  pub tests : c.tests < most
  pub failures : c.failures < most
  pub errors : c.errors < most
  pub skipped : c.skipped < most
