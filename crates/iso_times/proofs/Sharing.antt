-- A gate that keeps times may be shared by threads where its clock and the gate inside it may. A field more is a `search` more in its tuple.
use denote.Param.Send.{IsSync, sendable}
use denote.Param.SendFields.{as_row_sync, declared_sync}
use denote.RattleType.{RattleType}
use denote.Ref.{NamedLft}
use Rattle.std.proofs.Crossing.{crosses}
use Rattle.std.proofs.option.Option.TheSendSync as option
use Rattle.std.proofs.time.Instant.TheSendSync as instant
use Rattle.iso_times.proofs.cell.Cell.TheSendSync as cell
use Rattle.iso_times.proofs.times.BodyTime.TheSendSync as time
use Rattle.iso_times.specs.contracts.gate.TimesGate as gate
use Rattle.iso_times.specs.contracts.gate.TimesGate.TheInside as gate_inside
use Rattle.iso_times.specs.contracts.table.Table as table
use Rattle.iso_times.specs.contracts.table.Table.TheInside as table_inside

ruleset parts = (option.the_sync, instant.the_sync, cell.the_sync, time.the_sync, as_row_sync, crosses, sendable)

pub table_shared : IsSync table.the_row
table_shared = search (declared_sync table_inside.the_type (search parts, (search parts, (search parts, tt))), sendable)

module _ (a : NamedLft) (C G : RattleType) (clock : IsSync C) (inner : IsSync G) where
  pub gate_shared : IsSync (gate.the_row a C G)
  gate_shared = search (declared_sync (gate_inside.the_type a C G) (search parts, (search parts, (search parts, (search (table_shared, parts), tt)))), sendable)
