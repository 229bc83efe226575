use Rattle.std.proofs.Common.{ap, ◌∙◌}
use Rattle.std.specs.List.{list_any}
use Rattle.iso_plan.proofs.WriterLemmas.{lead-writes}
use Rattle.iso_plan.specs.Locks.{is_write}
use Rattle.iso_plan.specs.RowView.{tree_of}
use Rattle.iso_plan.proofs.plan.Plan.is_writer.Goals as goal

pub returns : goal.returns
returns c = c.takes_write.ensures ∙ ap (list_any is_write) c.lead_locks.ensures.locks ∙ lead-writes (tree_of c.args.self.now) c.args.node c.requires
