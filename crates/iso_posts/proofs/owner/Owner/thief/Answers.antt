use Rattle.iso_posts.proofs.Keeping.{forks}
use Rattle.iso_posts.proofs.owner.Owner.thief.Goals as goal

pub another-pass-requires : goal.another-pass-requires
another-pass-requires c = forks _ _ c.self.invariant.owned
