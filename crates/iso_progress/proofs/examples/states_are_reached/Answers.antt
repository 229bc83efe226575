use Rattle.std.proofs.Common.{refl, arith}
use Rattle.iso_progress.specs.Examples.{isolated_opened}
use Rattle.iso_progress.proofs.examples.states_are_reached.Goals as goal

pub returns : goal.returns
returns c = record { manned = omega arith; events = isolated_opened; run = refl; state = refl }
