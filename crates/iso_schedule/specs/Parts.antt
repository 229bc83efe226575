-- What the reader's parts of a line stand for.
use Rattle.std.specs.Prelude.{ℕ, List}
use Rattle.iso_schedule.specs.Lines as L
use Rattle.iso_schedule.specs.declared.numeral.Numeral.{Numeral}
use Rattle.iso_schedule.specs.declared.written.Written.{Written}
use Rattle.iso_schedule.specs.declared.written.Written.TheVariants.{Enter, Step, Leave, Shut}

-- the digits of a numeral
abbrev pub numeral_in : Numeral → List ℕ
numeral_in n = n.digits.now

-- an event as it is written
abbrev pub written : Written → L.Written
written (Enter worker node) = L.enter (numeral_in worker) (numeral_in node)
written (Step worker) = L.step (numeral_in worker)
written (Leave worker) = L.leave (numeral_in worker)
written (Shut worker node) = L.shut (numeral_in worker) (numeral_in node)
