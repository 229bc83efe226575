-- How many testcases there are, what they came to, and how long they took.
use Rattle.std.specs.Prelude.{ℕ, List, [], ◌∷◌, Option, None, Some, Bool, true, false, filter, flat_map, length}
use Rattle.iso_failures.specs.Nodes.{was_skipped}
use Rattle.iso_model.specs.declared.outcome.Verdict.{Verdict}
use Rattle.iso_model.specs.declared.outcome.Verdict.TheVariants.{Pass, Fail, Fault, Skipped, Blocked}
use Rattle.iso_junit.specs.Runs.{RunView, time}
use Rattle.iso_junit.specs.Times.{time_of}
use Rattle.iso_junit.specs.declared.tally.Tally.{Tally}

-- a verdict is told as a failure: it is a fail
abbrev pub is_fail : Verdict → Bool
is_fail Pass = false
is_fail (Fail note) = true
is_fail (Fault kind note) = false
is_fail (Skipped note) = false
is_fail (Blocked note) = false

-- it is told as an error: it is a fault, or that of a test that was blocked
abbrev pub is_error : Verdict → Bool
is_error Pass = false
is_error (Fail note) = false
is_error (Fault kind note) = true
is_error (Skipped note) = false
is_error (Blocked note) = true

-- how many testcases have such a verdict
abbrev pub how_many : RunView → (Verdict → Bool) → List ℕ → ℕ
how_many r such cases = length (filter (λ n. such (r.outcome n).verdict) cases)

-- the times that were measured of testcases
abbrev pub measured : Option ℕ → List ℕ
measured None = []
measured (Some t) = t ∷ []

abbrev pub times_of : RunView → List ℕ → List ℕ
times_of r cases = flat_map (λ n. measured (time r n)) cases

-- the counts of testcases, and the sum of their times
abbrev pub tally : RunView → List ℕ → Tally
tally r cases =
    record {
      tests = length cases;
      failures = how_many r is_fail cases;
      errors = how_many r is_error cases;
      skipped = how_many r was_skipped cases;
      time = time_of (times_of r cases);
    }
