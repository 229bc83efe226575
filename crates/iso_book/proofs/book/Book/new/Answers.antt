use Rattle.std.proofs.Common.{◌<◌, ◌≤◌, ◌*◌, Bool, List, length, ap, sym, ◌∙◌, subst, arith}
use Rattle.std.specs.Vec.{vec_capacity}
use Rattle.iso_book.proofs.Begins.{book-begins}
use Rattle.iso_book.proofs.Runs.{book_of}
use Rattle.iso_book.specs.Books.{IsBook, new_book}
use Rattle.iso_lifecycle.specs.ResultViews.{no_results}
use Rattle.iso_lifecycle.specs.Subjects.{started}
use Rattle.iso_plan.specs.Paths.{IsTree}
use Rattle.iso_plan.specs.Planned.{Planned}
use Rattle.iso_plan.specs.RowView.{tree_of}
use Rattle.iso_settings.specs.Worlds.{Start}
use Rattle.iso_standing.proofs.Looks.{nodes-are}
use Rattle.iso_standing.specs.declared.event.Event.{Event}
use Rattle.iso_book.proofs.book.Book.new.Goals as goal

rooted-in : (plan : Planned) → IsTree (tree_of plan) → 0 < length plan.rows
rooted-in plan t = let count = nodes-are plan in let r = t.rooted in omega arith

pub invariant_of-result : goal.invariant_of-result
invariant_of-result c =
    let plan = c.args.plan.now in
    let world = c.args.world.now in
    let v = c.in_ok-new.field-0 in
    let room = vec_capacity c.in_ok-with_capacity.field-0 in
    let enough : 4 * length plan.rows ≤ room = let e = c.in_ok-with_capacity.ensures.exact in let n = c.len-nodes.ensures in omega arith in
    subst (λ (es : List Event). IsBook (book_of plan world c.args.workers v.stopped es) v c.in_ok-new-2.field-0 c.in_ok-new-3.field-0 room) (sym c.in_ok-with_capacity.ensures.items)
    (book-begins plan world c.args.workers v c.in_ok-new-2.field-0 c.in_ok-new-3.field-0 room (rooted-in plan c.nodes_are_a_tree.ensures)
    c.in_ok-new.ensures.plan c.in_ok-new.ensures.workers c.in_ok-new.ensures.state c.in_ok-new-2.ensures
    (c.in_ok-new-3.ensures ∙ ap (λ (s : Start). no_results plan s) c.of.ensures) (c.results_follow_nodes.ensures.begin world) enough)

pub returns : goal.returns
returns c =
    let plan = c.args.plan.now in
    let world = c.args.world.now in
    let v = c.in_ok-new.field-0 in
    ap (book_of plan world c.args.workers v.stopped) c.in_ok-with_capacity.ensures.items
    ∙ ap (λ (b : Bool). record (new_book plan world c.args.workers) { stopped = b }) (sym (c.in_ok-new.ensures.state (started world)).stopped)
