use Rattle.std.proofs.Common.{◌≡◌, length}
use Rattle.iso_hints.specs.NearKeys.{rests}
use Rattle.iso_hints.proofs.near_key.rests.Given as goal

abbrev pub invariant-segments : goal.invariant-segments
invariant-segments l = rests l.rests.0.now l.rests.1.now ≡ rests l.key l.known

abbrev pub decreases-segments : goal.decreases-segments
decreases-segments l = length l.rests.0.now
