use Rattle.iso_floor.proofs.PostingLemmas.{ok-more}
use Rattle.iso_floor.proofs.desk.post_root.Goals as goal

pub returns-in-Some-clause-posted : goal.returns-in-Some-clause-posted
returns-in-Some-clause-posted c = ok-more c.post_children.result (λ f some low sizes. f low sizes) c.post_children.ensures.posted
