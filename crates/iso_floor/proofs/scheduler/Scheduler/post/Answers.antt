use Rattle.std.proofs.Common.{refl}
use Rattle.iso_desk.specs.declared.place.Place.TheVariants.{Loose}
use Rattle.iso_floor.proofs.PlaceLemmas.{keeps-moved}
use Rattle.iso_floor.proofs.scheduler.Scheduler.post.Goals as goal

pub returns-clause-places : goal.returns-clause-places
returns-clause-places c = keeps-moved _ _ c.args.node Loose refl c.put.ensures.places
