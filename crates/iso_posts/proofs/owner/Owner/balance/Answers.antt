use Rattle.iso_posts.proofs.Keeping.{knows}
use Rattle.iso_posts.proofs.owner.Owner.balance.Goals as goal

pub len_as-requires : goal.len_as-requires
len_as-requires c = knows _ _ c.self.invariant.owned
