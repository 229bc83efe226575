use Rattle.std.proofs.Common.{◌≡◌, vec_capacity}
use Rattle.iso_lifecycle.proofs.FramesUp.{IsOnWay}
use Rattle.iso_lifecycle.proofs.results.Results.share_upwards.Given as goal

abbrev pub invariant-up : goal.invariant-up
invariant-up l = record {
  way : IsOnWay l.self l.node l.at l.frames.items;
  capacity : vec_capacity l.frames ≡ vec_capacity l.fn.frames;
}

abbrev pub decreases-up : goal.decreases-up
decreases-up l = l.at
