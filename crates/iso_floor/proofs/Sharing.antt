-- A floor may be shared by threads, and a seat may go to another thread, as may what a worker ends with. A field more of one of these types is a
-- `search` more in its tuple.
use denote.Param.Send.{IsSend, IsSync, sendable}
use denote.Param.SendFields.{as_row_send, as_row_sync, declared_send, declared_sync}
use denote.RattleType.{RattleType}
use denote.Ref.{NamedLft}
use Rattle.std.proofs.Crossing.{crosses}
use Rattle.std.proofs.option.Option.TheSendSync as option
use Rattle.iso_book.proofs.Sharing.{book_sent}
use Rattle.iso_book.proofs.receipt.Receipt.TheSendSync as receipt
use Rattle.iso_floor.proofs.hints.Hints.TheSendSync as hints
use Rattle.iso_floor.proofs.scheduler.Scheduler.TheSendSync as scheduler
use Rattle.iso_floor.proofs.work.Cause.TheSendSync as cause
use Rattle.iso_floor.specs.contracts.desk.Desk as desk
use Rattle.iso_floor.specs.contracts.desk.Desk.TheInside as desk_inside
use Rattle.iso_floor.specs.contracts.floor.Floor as floor
use Rattle.iso_floor.specs.contracts.floor.Floor.TheInside as floor_inside
use Rattle.iso_floor.specs.contracts.seat.Seat as seat
use Rattle.iso_floor.specs.contracts.seat.Seat.TheInside as seat_inside
use Rattle.iso_floor.specs.contracts.work.WorkEnd as work_end
use Rattle.iso_floor.specs.declared.ground.Ground.{Ghosts}
use Rattle.iso_locks.proofs.Sharing.{tray_sent}
use Rattle.iso_plan.proofs.Sharing.{plan_shared}
use Rattle.iso_posts.proofs.Sharing.{seat_sent as posts_sent}
use Rattle.iso_settings.proofs.world.World.TheSendSync as world

ruleset parts = (plan_shared, world.the_sync, book_sent, posts_sent, tray_sent, receipt.the_send, scheduler.the_send, hints.the_send, cause.the_send, as_row_send, as_row_sync, crosses, sendable)

module _ (a : NamedLft) (T : RattleType) (ground : Ghosts T.Denot) (sent : IsSend T) where
  pub seat_sent : IsSend (seat.the_row a T ground)
  seat_sent = search (declared_send (seat_inside.the_type a T ground) (search parts, (search parts, (search parts, (search parts, (search parts, (search parts, tt)))))), sendable)

  pub work_end_sent : IsSend (work_end.the_row a T ground)
  work_end_sent = declared_send (work_end.the_type a T ground) (search (as_row_send, seat_sent), (search parts, tt))

  pub desk_sent : IsSend (desk.the_row a T ground)
  desk_sent = search (
    declared_send (desk_inside.the_type a T ground)
        (search parts, (search (option.the_send, parts) depth 12, (search parts, (search parts, (search parts, (search parts, (search parts, tt))))))),
    sendable,
  )

  pub floor_shared : IsSync (floor.the_row a T ground)
  floor_shared =
      search (
        declared_sync (floor_inside.the_type a T ground)
            (search parts, (search parts, (search parts, (search (desk_sent, parts), (search parts, (search parts depth 12, (search parts, tt))))))),
        sendable,
      )
