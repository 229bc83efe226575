use Rattle.std.proofs.Common.{◌≤◌, length, sym, subst, arith}
use Rattle.std.specs.Vec.{vec_capacity}
use Rattle.iso_plan.specs.Paths.{path}
use Rattle.iso_plan.specs.Planned.{Planned}
use Rattle.iso_plan.specs.RowView.{tree_of}
use Rattle.iso_core.proofs.machine.opened_frames.Goals as goal

pub share_frames-requires-clause-room : goal.share_frames-requires-clause-room
share_frames-requires-clause-room c =
    let n = c.args.class in
    let Fits : Planned → Type 0 = λ p. length (path (tree_of p) n) ≤ vec_capacity c.in_ok-frames.frames in
    let room = c.in_ok-frames.ensures.capacity in
    let count = c.class_count.ensures in
    subst Fits (sym c.requires.plan) (omega arith)
