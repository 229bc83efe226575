-- The ends of a deque and a worker's seat may go to another thread.
use denote.Param.Send.{IsSend, sendable}
use denote.Param.SendFields.{as_row_send, declared_send}
use Rattle.std.proofs.Crossing as crossing
use Rattle.std.proofs.option.Option.TheSendSync as option
use Rattle.crossbeam_deque.proofs.handles.Stealer.TheSendSync as stealer
use Rattle.crossbeam_deque.proofs.handles.Worker.TheSendSync as worker
use Rattle.crossbeam_deque.below.atomic_blocks.proofs.rows.shared.Seat.TheSendSync as pass
use Rattle.iso_posts.specs.contracts.owner.Owner as owner
use Rattle.iso_posts.specs.contracts.owner.Owner.TheInside as owner_inside
use Rattle.iso_posts.specs.contracts.posts.PostSeat as seat
use Rattle.iso_posts.specs.contracts.thief.Thief as thief
use Rattle.iso_posts.specs.contracts.thief.Thief.TheInside as thief_inside

ruleset parts = (option.the_send, stealer.the_send, worker.the_send, pass.the_send, crossing.frees, crossing.send, crossing.sync, as_row_send, crossing.crosses, sendable)

pub owner_sent : IsSend owner.the_row
owner_sent = search (declared_send owner_inside.the_type (search parts, tt), sendable)

pub thief_sent : IsSend thief.the_row
thief_sent = search (declared_send thief_inside.the_type (search parts, (search parts depth 12, tt)), sendable)

pub seat_sent : IsSend seat.the_row
seat_sent = declared_send seat.the_type (search owner_sent, (search (thief_sent, parts), tt))
