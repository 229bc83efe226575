-- Trays and vaults may go to another thread.
use denote.Param.Send.{IsSend, sendable}
use denote.Param.SendFields.{as_row_send, declared_send}
use denote.Ref.{NamedLft}
use Rattle.std.proofs.Crossing.{crosses}
use Rattle.iso_lifecycle.proofs.Sharing.{frame_sent}
use Rattle.iso_locks.proofs.key_set.KeySet.TheSendSync as key_set
use Rattle.iso_locks.proofs.starting.Starting.TheSendSync as starting
use Rattle.iso_locks.specs.contracts.counts.Counts as counts
use Rattle.iso_locks.specs.contracts.counts.Counts.TheInside as counts_inside
use Rattle.iso_locks.specs.contracts.lent.LentNodes as lent
use Rattle.iso_locks.specs.contracts.lent.LentNodes.TheInside as lent_inside
use Rattle.iso_locks.specs.contracts.lockers.Lockers as lockers
use Rattle.iso_locks.specs.contracts.lockers.Lockers.TheInside as lockers_inside
use Rattle.iso_locks.specs.contracts.slots.Slots as slots
use Rattle.iso_locks.specs.contracts.slots.Slots.TheInside as slots_inside
use Rattle.iso_locks.specs.contracts.starting.Starts as starts
use Rattle.iso_locks.specs.contracts.starting.Starts.TheInside as starts_inside
use Rattle.iso_locks.specs.contracts.tray.Tray as tray
use Rattle.iso_locks.specs.contracts.tray.Tray.TheInside as tray_inside
use Rattle.iso_locks.specs.contracts.vault.Vault as vault
use Rattle.iso_locks.specs.contracts.vault.Vault.TheInside as vault_inside
use Rattle.iso_plan.proofs.Sharing.{held_sent, option_sent, plan_shared}
use Rattle.iso_settings.proofs.world.World.TheSendSync as world
use Rattle.iso_store.proofs.Sharing as stored

ruleset values = (stored.held_sent, key_set.the_send, option_sent, as_row_send, crosses, sendable)

slots_sent : IsSend slots.the_row
slots_sent = search (declared_send slots_inside.the_type (search values, (search values, (search values, tt))), sendable)

ruleset started = (starting.the_send, starting.the_sync, as_row_send, crosses, sendable)

starts_sent : IsSend starts.the_row
starts_sent = search (declared_send starts_inside.the_type (search started, tt), sendable)

counts_sent : IsSend counts.the_row
counts_sent = search (declared_send counts_inside.the_type (search values, (search values, tt)), sendable)

ruleset held = (plan_shared, held_sent, counts_sent, world.the_sync, slots_sent, starts_sent, frame_sent, as_row_send, crosses, sendable)

lockers_sent : (a : NamedLft) → IsSend (lockers.the_row a)
lockers_sent a = search (declared_send (lockers_inside.the_type a) (search held, (search held, tt)), sendable)

lent_sent : (a : NamedLft) → IsSend (lent.the_row a)
lent_sent a = search (declared_send (lent_inside.the_type a) (search held, (search held, (search (lockers_sent, held), tt))), sendable)

pub vault_sent : (a : NamedLft) → IsSend (vault.the_row a)
vault_sent a = search (declared_send (vault_inside.the_type a) (search held, (search held, (search held, (search held, (search held, tt))))), sendable)

pub tray_sent : (a : NamedLft) → IsSend (tray.the_row a)
tray_sent a =
    search (
      declared_send (tray_inside.the_type a)
          (search held, (search held, (search held, (search (lent_sent, held), (search held, (search held, (search held, (search (option_sent, held), (search held, tt))))))))),
      sendable,
    )
