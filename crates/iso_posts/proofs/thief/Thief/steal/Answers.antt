use Rattle.iso_posts.proofs.Keeping.{takes, thief_moves}
use Rattle.iso_posts.proofs.thief.Thief.steal.Goals as goal

pub steal_as-requires-clause-takes : goal.steal_as-requires-clause-takes
steal_as-requires-clause-takes c = takes _ _ (thief_moves _ c.self.invariant.1)
