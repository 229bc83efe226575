use Rattle.std.proofs.Common.{◌≡◌, ◌<◌, ◌∙◌, ap, arith, Bool, false, cond, length, min, ℕ}
use Rattle.std.proofs.lemmas.Bool.Decides.{nat_tests}
use Rattle.std.specs.Bool.{◌==◌}
use Rattle.iso_durations.specs.Times.{measured, micros}
use Rattle.iso_durations.proofs.ListLemmas.{length-listed}
use Rattle.iso_durations.proofs.laws.as_many_are_listed_as_are_asked_for.Goals as goal

some : (most : ℕ) → 0 < most → (most == 0) ≡ false
some most h = grind (arith, nat_tests)

pub returns-clause-some : goal.returns-clause-some
returns-clause-some c tree times most h =
    length-listed (micros times) most (measured tree times)
    ∙ ap (λ (b : Bool). cond b (length (measured tree times)) (min most (length (measured tree times)))) (some most h)

pub returns-clause-all : goal.returns-clause-all
returns-clause-all c tree times = length-listed (micros times) 0 (measured tree times)
