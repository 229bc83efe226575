use Rattle.std.proofs.Common.{ap, ◌∙◌}
use Rattle.iso_lifecycle.specs.ResultViews.{no_results}
use Rattle.iso_serial.proofs.NodeLemmas.{first-stands}
use Rattle.iso_serial.specs.declared.run.Walk.{Walk}
use Rattle.iso_serial.proofs.run.Serial.begin.Goals as goal

pub returns-clause-results : goal.returns-clause-results
returns-clause-results g c = c.in_ok-new-3.ensures ∙ ap (no_results c.args.self.now.plan.now) c.of.ensures

pub returns-clause-between : goal.returns-clause-between
returns-clause-between g c =
    let plan = c.args.self.now.plan.now in
    let first : Walk = record { vault = c.in_ok-new.field-0; tray = c.in_ok-new-2.field-0; results = c.in_ok-new-3.field-0 } in
    first-stands plan c.args.self.now.world.now first c.nodes_are_a_tree.ensures c.in_ok-new.ensures c.in_ok-new-2.ensures (c.in_ok-new-3.ensures ∙ ap (no_results plan) c.of.ensures)
