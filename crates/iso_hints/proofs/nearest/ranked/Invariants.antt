use Rattle.std.proofs.Common.{map, take}
use Rattle.iso_hints.specs.Ranks.{IsRanked}
use Rattle.iso_hints.proofs.nearest.ranked.Given as goal

abbrev pub invariant-loop-candidate : goal.invariant-loop-candidate
invariant-loop-candidate l = IsRanked l.word (take l.candidate-index (map (λ c. c.now) l.candidates)) l.count l.near.items
