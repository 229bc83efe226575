use Rattle.std.proofs.Common.{◌≡◌, ◌==◌, ◌||◌, List, Bool, false, not, length, map, get_or, ap, sym, ◌∙◌, arith}
use Rattle.iso_model.specs.declared.heads.Mark.{Mark}
use Rattle.iso_plan.proofs.ColumnLemmas.{length-column, column-read, column-push, row-at}
use Rattle.iso_plan.specs.KeyTable.{kind_marks}
use Rattle.iso_plan.specs.Locks.{declares, holds_isolated}
use Rattle.iso_plan.specs.Paths.{row_at}
use Rattle.iso_plan.specs.RowView.{row_of}
use Rattle.iso_plan.specs.Tree as T
use Rattle.iso_plan.proofs.locking.declaring.Goals as goal
use Rattle.iso_plan.proofs.locking.declaring.Goals.{then-isolated-n, else-isolated-n}

pub bounds-isolated-n : goal.bounds-isolated-n
bounds-isolated-n c =
    let rows = c.args.rows.now in
    let count : length c.args.isolated.now ≡ length rows = ap length c.requires ∙ length-column (holds_isolated (map row_of rows)) (length rows) in
    omega arith

pub nodes-preserved : goal.nodes-preserved
nodes-preserved c =
    let rows = c.args.rows.now in
    let tree = map row_of rows in
    let n = c.nodes.n in
    let v = c.nodes.declaring in
    let own : get_or c.args.isolated.now n false ≡ holds_isolated tree n = column-read (holds_isolated tree) c.args.isolated.now (length rows) n false c.requires (omega arith) in
    let marks : List Mark = kind_marks (row_at tree n).kind in
    let this : c.if-isolated-n.push ≡ declares tree n = elim c.if-isolated-n.branch [
      | then-isolated-n w ↦ w.push-is ∙ w.if-isolated-n.true ∙ sym (ap (λ (b : Bool). b || not (length marks == 0)) (sym own ∙ w.if-isolated-n.true))
      | else-isolated-n w ↦ w.push-is
          ∙ ap not (w.is_empty.ensures ∙ ap (λ (ms : List Mark). length ms == 0) (w.marks.ensures ∙ ap (λ (r : T.Row). kind_marks r.kind) (sym (row-at rows n w.index-rows-n.result (omega arith)))))
          ∙ sym (ap (λ (b : Bool). b || not (length marks == 0)) (sym own ∙ w.if-isolated-n.false))
    ] in
    c.in_ok-push.ensures.items ∙ column-push (declares tree) v.items n c.if-isolated-n.push c.nodes.invariant this
