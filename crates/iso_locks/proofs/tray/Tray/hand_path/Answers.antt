use Rattle.std.proofs.Common.{◌≡◌, ◌<◌, ◌≤◌, false, length, ap, sym, ◌∙◌, subst, arith}
use Rattle.std.specs.Vec.{vec_capacity}
use Rattle.iso_lifecycle.specs.ResultViews.{AreOpened}
use Rattle.iso_plan.specs.Paths.{is_test, path, row_at}
use Rattle.iso_plan.specs.Planned.{Planned}
use Rattle.iso_plan.specs.RowView.{tree_of}
use Rattle.iso_plan.proofs.DepthLemmas.{path-within}
use Rattle.iso_locks.specs.Trays.{TrayView}
use Rattle.iso_locks.proofs.tray.Tray.hand_path.Goals as goal

pub share_frames-requires-clause-node : goal.share_frames-requires-clause-node
share_frames-requires-clause-node c =
    let Within : Planned → Type 0 = λ p. c.args.class < length p.rows in
    subst Within (sym c.requires.plan) c.requires.node

pub share_frames-requires-clause-opened : goal.share_frames-requires-clause-opened
share_frames-requires-clause-opened c =
    let Opened : Planned → Type 0 = λ p. AreOpened c.args.results.now (path (tree_of p) c.args.class) in
    subst Opened (sym c.requires.plan) c.requires.opened

pub share_frames-requires-clause-room : goal.share_frames-requires-clause-room
share_frames-requires-clause-room c =
    let same : c.args.self.now.plan ≡ c.self.inside.plan.now = ap (λ (t : TrayView). t.plan) (sym c.self.view_is) in
    let n = c.args.class in
    let Fits : Planned → Type 0 = λ p. length (path (tree_of p) n) ≤ vec_capacity c.self.inside.spare in
    let node : n < length c.self.inside.plan.now.rows = subst (λ (p : Planned). n < length p.rows) same c.requires.node in
    let class = subst (λ (p : Planned). is_test (row_at (tree_of p) n).kind ≡ false) same c.requires.class in
    let deep = path-within (tree_of c.self.inside.plan.now) c.nodes_are_a_tree.ensures n node class in
    let room = c.self.invariant.has_room.gathered in
    subst Fits (sym (c.requires.plan ∙ same)) (omega arith)
