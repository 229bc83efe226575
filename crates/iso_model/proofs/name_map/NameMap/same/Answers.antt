use Rattle.std.proofs.Common.{ap, refl, ◌∙◌}
use Rattle.std.specs.FinMap.{get}
use Rattle.iso_model.proofs.NameMapLemmas.{within-both}
use Rattle.iso_model.proofs.name_map.NameMap.same.Goals as goal

pub returns-then-is_within : goal.returns-then-is_within
returns-then-is_within g c = (
  λ yes_. within-both c.args.self.now c.args.other.now (c.if-is_within.ensures.0 refl) (c.is_within-then-is_within.ensures.0 yes_),
  λ e. c.is_within-then-is_within.ensures.1 (λ q t there. ap (λ m. get m q) e ∙ there),
)
