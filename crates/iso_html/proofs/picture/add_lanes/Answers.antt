use Rattle.std.proofs.Common.{List, ℕ, ◌++◌, map, sym, ap, ◌∙◌, add-one}
use Rattle.iso_html.proofs.ListLemmas.{appended}
use Rattle.iso_html.specs.Pictures.{lanes_below, row_shapes}
use Rattle.iso_html.specs.declared.shape.Mark.{Mark}
use Rattle.iso_html.proofs.picture.add_lanes.Goals as goal

pub workers-preserved : goal.workers-preserved
workers-preserved c =
    let lanes = map (λ v. v.items) c.args.lanes.now in
    let start = c.args.shapes.now.items in
    let below = lanes_below lanes c.args.pixels c.args.span in
    let row = row_shapes c.args.pixels c.args.span c.workers.worker in
    let next = appended start (below c.workers.worker) (row c.list_at.result.now) c.workers.shapes.items c.add_row.new.shapes.items c.in_ok-add_row.ensures c.workers.invariant in
    next
    ∙ ap (λ (ms : List Mark). start ++ (below c.workers.worker ++ row ms)) c.list_at.ensures
    ∙ ap (λ (n : ℕ). start ++ below n) (sym (add-one c.workers.worker))
