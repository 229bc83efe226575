use Rattle.iso_plan.specs.RowView.{tree_of}
use Rattle.iso_lifecycle.specs.OriginViews.{subject_of_origin}
use Rattle.iso_lifecycle.proofs.Framing.{Leads, frames-before}
use Rattle.iso_lifecycle.proofs.origin.Origin.frames_are_left_before.Goals as goal

pub returns-clause-left : goal.returns-clause-left
returns-clause-left c =
    let o = c.args.self.now in
    let leads : Leads (tree_of o.plan.now) = record { root = c.paths_lead_up.ensures.root; step = c.paths_lead_up.ensures.step; grows = c.chains_grow_down.ensures } in
    frames-before o.kind (subject_of_origin o) c.args.frames.now leads o.inner o.fits c.requires c.are_of_classes.ensures o.enclosed
