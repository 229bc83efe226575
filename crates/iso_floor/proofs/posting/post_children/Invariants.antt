use Rattle.std.proofs.Common.{◌≡◌, length}
use Rattle.iso_floor.specs.Postings.{ClosesNone}
use Rattle.iso_floor.specs.Schedulers.{KeepsLines, KeepsPlaces, KeepsSizes, KeepsStands}
use Rattle.iso_floor.proofs.PostingLemmas.{PostedBelow}
use Rattle.iso_floor.proofs.posting.post_children.Given as goal

abbrev pub invariant-children : goal.invariant-children
invariant-children l = record {
  sizes : KeepsSizes l.fn.scheduler l.scheduler;
  lines : KeepsLines l.fn.scheduler l.scheduler;
  places : KeepsPlaces l.fn.scheduler l.scheduler;
  keys : l.scheduler.keys ≡ l.fn.scheduler.keys;
  owners : l.scheduler.owners ≡ l.fn.scheduler.owners;
  passed : l.scheduler.passed ≡ l.fn.scheduler.passed;
  left : l.scheduler.left ≡ l.fn.scheduler.left;
  bypassed : l.scheduler.bypassed ≡ l.fn.scheduler.bypassed;
  stands : KeepsStands l.fn.scheduler l.scheduler;
  closes : ClosesNone l.fn.scheduler.table.places l.scheduler.table.places;
  posted : length l.fn.scheduler.table.places ≡ length l.plan.rows → PostedBelow l.plan l.child-items l.child-index l.scheduler.table.places;
}
