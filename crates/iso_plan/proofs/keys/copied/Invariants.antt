use Rattle.std.proofs.Common.{◌≡◌, take, map}
use Rattle.iso_plan.proofs.keys.copied.Given as goal

abbrev pub invariant-keys : goal.invariant-keys
invariant-keys l = l.texts.items ≡ map (λ k. k.now) (take l.key-index l.keys)
