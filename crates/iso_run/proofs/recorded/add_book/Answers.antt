use Rattle.std.proofs.Common.{List, subst, sym}
use Rattle.iso_run.specs.Courses.{AreEvents}
use Rattle.iso_run.specs.declared.way.Way.TheVariants.{ByWorkers}
use Rattle.iso_standing.specs.declared.event.Event.{Event}
use Rattle.iso_run.proofs.Coursing.{scheduled-told, whole-of_book}
use Rattle.iso_run.proofs.recorded.add_book.Goals as goal

pub returns : goal.returns
returns c =
    let b = c.args.book.now in
    let Are : List Event → Type 0 = AreEvents ByWorkers b.plan b.world b.workers in
    let whole = whole-of_book b c.in_ok-events.events.items c.in_ok-events.ensures.record c.in_ok-events.ensures.complete c.requires in
    scheduled-told Are c.args.sink.now c.add_events.new.sink c.deref.result.now c.add_events.result (subst Are (sym c.deref.ensures.value) whole) c.add_events.ensures
