use Rattle.iso_posts.proofs.Keeping.{finds, owner_moves, takes}
use Rattle.iso_posts.proofs.owner.Owner.take.Goals as goal

pub pop_as-requires-clause-fifo : goal.pop_as-requires-clause-fifo
pop_as-requires-clause-fifo c _ = takes _ _ (owner_moves _ c.self.invariant.owned)

pub pop_as-requires-clause-empty : goal.pop_as-requires-clause-empty
pop_as-requires-clause-empty c = finds _ _ c.self.invariant.owned
