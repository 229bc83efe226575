-- Frames, ends of bodies and results may go to another thread.
use denote.Param.Send.{IsSend, IsSync, sendable}
use denote.Param.SendFields.{as_row_send, as_row_sync, declared_send, declared_sync, variants_send}
use denote.Ref.{NamedLft}
use Rattle.std.proofs.Crossing.{crosses}
use Rattle.iso_model.proofs.lines.Lines.TheSendSync as lines
use Rattle.iso_model.proofs.shared_names.SharedNames.TheSendSync as names
use Rattle.iso_plan.proofs.Sharing.{plan_shared}
use Rattle.iso_lifecycle.proofs.done.Closed.TheSendSync as closed
use Rattle.iso_lifecycle.proofs.kept.KeptEnding.TheSendSync as ending
use Rattle.iso_lifecycle.proofs.kept.KeptOutcome.TheSendSync as outcome
use Rattle.iso_lifecycle.specs.contracts.done.Done as done
use Rattle.iso_lifecycle.specs.contracts.done.Done.TheInside as done_inside
use Rattle.iso_lifecycle.specs.contracts.done.Opened as opened
use Rattle.iso_lifecycle.specs.contracts.done.What as what
use Rattle.iso_lifecycle.specs.contracts.entry.Entry as entry
use Rattle.iso_lifecycle.specs.contracts.frame.Frame as frame
use Rattle.iso_lifecycle.specs.contracts.frame.Frame.TheInside as frame_inside
use Rattle.iso_lifecycle.specs.contracts.frame.Statics as statics
use Rattle.iso_lifecycle.specs.contracts.frame.Statics.TheInside as statics_inside
use Rattle.iso_lifecycle.specs.contracts.opening.KeptOpening as opening
use Rattle.iso_lifecycle.specs.contracts.opening.KeptOpening.TheInside as opening_inside
use Rattle.iso_lifecycle.specs.contracts.results.Results as results
use Rattle.iso_lifecycle.specs.contracts.results.Results.TheInside as results_inside

ruleset static = (names.the_send, names.the_sync, as_row_send, as_row_sync, crosses, sendable)

pub statics_sent : IsSend statics.the_row
statics_sent = search (declared_send statics_inside.the_type (search static, (search static, (search static, (search static, (search static, tt))))), sendable)

pub statics_shared : IsSync statics.the_row
statics_shared = search (declared_sync statics_inside.the_type (search static, (search static, (search static, (search static, (search static, tt))))), sendable)

pub frame_sent : IsSend frame.the_row
frame_sent = search (declared_send frame_inside.the_type (search (statics_sent, statics_shared, crosses, as_row_send), tt), sendable)

ruleset ends = (closed.the_send, lines.the_send, ending.the_send, outcome.the_send, frame_sent, as_row_send, crosses, sendable)

pub opened_sent : IsSend opened.the_row
opened_sent = declared_send opened.the_type (search ends, (search ends, (search ends, tt)))

pub opening_sent : IsSend opening.the_row
opening_sent = search (declared_send opening_inside.the_type (search (opened_sent, crosses, as_row_send), tt), sendable)

pub what_sent : IsSend what.the_row
what_sent = variants_send what.enum ((opening_sent, tt), ((search ends, tt), ((search ends, tt), tt)))

pub done_sent : IsSend done.the_row
done_sent = search (declared_send done_inside.the_type (search ends, (search ends, (search ends, (what_sent, tt)))), sendable)

pub entry_sent : IsSend entry.the_row
entry_sent = variants_send entry.enum (tt, ((search ends, tt), ((opening_sent, tt), ((opening_sent, (search ends, tt)), tt))))

ruleset kept = (plan_shared, entry_sent, as_row_send, crosses, sendable)

pub results_sent : (a : NamedLft) → IsSend (results.the_row a)
results_sent a = search (declared_send (results_inside.the_type a) (search kept, (search kept, (search kept, tt))), sendable)
