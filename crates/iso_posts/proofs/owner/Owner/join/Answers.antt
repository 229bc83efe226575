use Rattle.iso_posts.proofs.Keeping.{merges}
use Rattle.iso_posts.proofs.owner.Owner.join.Goals as goal

pub absorb-requires-clause-rule : goal.absorb-requires-clause-rule
absorb-requires-clause-rule c = merges _ _ _ _ c.self.invariant.owned c.into_pass.ensures.role
