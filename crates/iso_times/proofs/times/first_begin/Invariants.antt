use Rattle.std.proofs.Common.{◌≡◌, take}
use Rattle.iso_times.specs.Tables.{first_begin}
use Rattle.iso_times.proofs.times.first_begin.Given as goal

abbrev pub invariant-bodies : goal.invariant-bodies
invariant-bodies l = l.first ≡ first_begin (take l.body-index l.bodies)
