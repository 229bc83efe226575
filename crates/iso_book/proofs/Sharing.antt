-- A book may go to another thread.
use denote.Param.Send.{IsSend, sendable}
use denote.Param.SendFields.{as_row_send, declared_send}
use denote.Ref.{NamedLft}
use Rattle.std.proofs.Crossing.{crosses}
use Rattle.iso_book.specs.contracts.book.Book as book
use Rattle.iso_book.specs.contracts.book.Book.TheInside as book_inside
use Rattle.iso_lifecycle.proofs.Sharing.{results_sent}
use Rattle.iso_locks.proofs.Sharing.{vault_sent}
use Rattle.iso_plan.proofs.Sharing.{held_sent, plan_shared}
use Rattle.iso_settings.proofs.world.World.TheSendSync as world
use Rattle.iso_standing.proofs.event.Event.TheSendSync as event
use Rattle.iso_standing.proofs.phase.Phase.TheSendSync as phase
use Rattle.iso_standing.specs.contracts.standing.Standing as standing
use Rattle.iso_standing.specs.contracts.standing.Standing.TheInside as standing_inside

ruleset held = (plan_shared, world.the_sync, phase.the_send, event.the_send, as_row_send, crosses, sendable)

pub standing_sent : (a : NamedLft) → IsSend (standing.the_row a)
standing_sent a = search (
  declared_send (standing_inside.the_type a)
      (search held, (search held, (search held, (search held depth 12, (search held, (search held, (search (held_sent, held), tt))))))),
  sendable,
)

pub book_sent : (a : NamedLft) → IsSend (book.the_row a)
book_sent a =
    search (
      declared_send (book_inside.the_type a)
          (search held, (search held, (search held, (search (standing_sent, held), (search (vault_sent, held), (search (results_sent, held), (search held, tt))))))),
      sendable,
    )
