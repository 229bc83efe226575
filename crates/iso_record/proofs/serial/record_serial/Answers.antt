use Rattle.std.proofs.Common.{subst, sym}
use Rattle.iso_core.specs.Cores.{CoreView}
use Rattle.iso_record.proofs.SerialCores.{are_serial}
use Rattle.iso_record.proofs.SerialNodes.{may_begin}
use Rattle.iso_record.specs.Recordings.{OfSameSuite, history_in}
use Rattle.iso_record.specs.SerialRuns.{HasRunInside, MayRunInside}
use Rattle.iso_record.proofs.serial.record_serial.Goals as goal

pub children-requires-clause-may : goal.children-requires-clause-may
children-requires-clause-may c =
    subst (λ (v : CoreView). MayRunInside v.plan v.world v.workers 0 (history_in v)) (sym c.in_ok-recording.ensures)
    (may_begin c.args.plan.now c.args.world.now c.args.workers c.nodes_are_a_tree.ensures c.requires)

pub returns : goal.returns
returns c =
    let d = c.children.new.self in
    are_serial c.args.plan.now c.args.world.now c.args.workers c.nodes_are_a_tree.ensures d
    (subst (λ (v : CoreView). OfSameSuite v d) c.in_ok-recording.ensures c.children.ensures.same)
    c.in_ok-children.ensures.taken
    (subst (λ (v : CoreView). HasRunInside v.plan v.world v.workers 0 (history_in v) (history_in d)) c.in_ok-recording.ensures c.in_ok-children.ensures.run)
    _ c.into_events.ensures
