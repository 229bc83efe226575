use Rattle.std.proofs.Common.{◌≡◌, ℕ, refl, ap, sym, ◌∙◌, arith}
use Rattle.std.proofs.Math.Dec.{eqb}
use Rattle.std.proofs.lemmas.Bool.{eqb-true}
use Rattle.iso_isolation.specs.Examples.{numbers}
use Rattle.iso_isolation.specs.ExampleRuns.{both_left, kiosk}
use Rattle.iso_isolation.proofs.ExampleLaws.{it_is}
use Rattle.iso_isolation.proofs.examples.runs_give_what_the_laws_ask.Goals as goal

pub returns-clause-given : goal.returns-clause-given
returns-clause-given c = record { nonzero = omega arith; workers = 3; events = both_left; run = refl; result = refl }

-- key 2 starts alike
at_2 : (k : ℕ) → k ≡ 2 → numbers k ≡ kiosk.start k
at_2 k e = ap numbers e ∙ sym (ap kiosk.start e)

pub returns-clause-agree : goal.returns-clause-agree
returns-clause-agree c = record { chains = refl; starts = λ k r. at_2 k (eqb-true k 2 (it_is (eqb k 2) r)) }

pub returns-clause-history : goal.returns-clause-history
returns-clause-history c = record { no_step = refl; run = refl }

pub returns-clause-same_history : goal.returns-clause-same_history
returns-clause-same_history c = record { left = refl; right = refl; same = refl }
