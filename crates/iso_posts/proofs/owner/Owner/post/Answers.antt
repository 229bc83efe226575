use Rattle.iso_posts.proofs.Keeping.{posts}
use Rattle.iso_posts.proofs.owner.Owner.post.Goals as goal

pub push_as-requires-clause-pushes : goal.push_as-requires-clause-pushes
push_as-requires-clause-pushes c = posts _ _ _ c.self.invariant.owned
