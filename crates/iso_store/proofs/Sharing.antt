-- A value that can go back, and its marks, may go to another thread. The check finds this by itself for nothing that holds layers.
use denote.Param.Send.{IsSend, sendable}
use denote.Param.SendFields.{as_row_send, declared_send}
use Rattle.std.proofs.Crossing.{crosses}
use Rattle.iso_model.proofs.name_map.NameMap.TheSendSync as places
use Rattle.iso_model.proofs.resource.Resource.TheSendSync as resource
use Rattle.iso_model.proofs.text.Text.TheSendSync as text
use Rattle.std.proofs.option.Option.TheSendSync as option
use Rattle.iso_store.specs.contracts.held.Held as held
use Rattle.iso_store.specs.contracts.held.Held.TheInside as held_inside
use Rattle.iso_store.specs.contracts.held.Savepoint as savepoint
use Rattle.iso_store.specs.contracts.held.Savepoint.TheInside as savepoint_inside
use Rattle.iso_store.specs.contracts.layers.Layers as layers
use Rattle.iso_store.specs.contracts.layers.Layers.TheInside as layers_inside
use Rattle.iso_store.specs.contracts.value.Value as value

ruleset parts = (places.the_send, places.the_sync, option.the_send, option.the_sync, text.the_send, text.the_sync, resource.the_send, as_row_send, crosses, sendable)

pub layers_sent : IsSend layers.the_row
layers_sent = search (declared_send layers_inside.the_type (search parts, tt), sendable)

ruleset layered = (layers_sent, parts)

pub value_sent : IsSend value.the_row
value_sent = declared_send value.the_type (search layered, (search layered, tt))

ruleset values = (value_sent, layered)

pub held_sent : IsSend held.the_row
held_sent = search (declared_send held_inside.the_type (search values, (search values, (search values, tt))), sendable)

pub savepoint_sent : IsSend savepoint.the_row
savepoint_sent = search (declared_send savepoint_inside.the_type (search values, (search values, (search values, tt))), sendable)
