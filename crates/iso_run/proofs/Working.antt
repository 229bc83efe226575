-- Why a run by workers has no report.
use Rattle.std.proofs.Common.{Bool, Err, refl}
use Rattle.iso_run.specs.Replays.{IsOfWorkers}
use Rattle.iso_run.specs.Runs.{Product, Writes}
use Rattle.iso_run.specs.Suites.{IsSuite, Suite}
use Rattle.iso_run.specs.declared.run_fault.RunFault.{RunFault}
use Rattle.iso_run.specs.declared.run_fault.RunFault.TheVariants as F
use Rattle.iso_run.specs.declared.inputs.Inputs.{Inputs}
use Rattle.iso_run.specs.declared.way.Way.TheVariants.{ByWorkers}
use Rattle.iso_tap.specs.Sinks.{Account}

-- a fault of the workers of a suite leaves the sink as it was
pub unworked : {A : Type 0} (ok_of : A → Bool) (product : Suite → Product) (inputs : Inputs) (a : Account) (suite : Suite) (fault : RunFault) → IsSuite inputs suite
    → IsOfWorkers suite.settings.worker_count fault → Writes ok_of product inputs ByWorkers a a (Err fault)
unworked ok_of product inputs a suite (F.Settings fault) is of = absurd of
unworked ok_of product inputs a suite (F.World fault) is of = absurd of
unworked ok_of product inputs a suite (F.Script index fault) is of = absurd of
unworked ok_of product inputs a suite (F.Plan fault) is of = absurd of
unworked ok_of product inputs a suite (F.Schedule fault) is of = absurd of
unworked ok_of product inputs a suite (F.Refused index why) is of = absurd of
unworked ok_of product inputs a suite F.Unfinished is of = record { cause = (suite, is, tt); leaves = refl }
unworked ok_of product inputs a suite F.Start is of = record { cause = (refl, (suite, is, of)); leaves = refl }
unworked ok_of product inputs a suite F.Lost is of = record { cause = (refl, (suite, is, tt)); leaves = refl }
unworked ok_of product inputs a suite F.Memory is of = record { cause = tt; leaves = refl }
unworked ok_of product inputs a suite (F.Write written) is of = absurd of
