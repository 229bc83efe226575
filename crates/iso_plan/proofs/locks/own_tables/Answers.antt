use Rattle.std.proofs.Common.{◌≡◌, [], get_or, ◌||◌, ◌&&◌, ℕ, List, Option, Some, None, Bool, false, cond, not, replicate, length, map, ap, ap₂, sym, ◌∙◌, arith}
use Rattle.std.proofs.lemmas.List.{map_push}
use Rattle.std.specs.declared.alloc.Global.{Global}
use Rattle.std.specs.declared.vec.Vec.{Vec}
use Rattle.iso_model.specs.declared.access.Access.{Access}
use Rattle.iso_model.specs.declared.access.Access.TheVariants.{Read, Write}
use Rattle.iso_plan.proofs.ColumnLemmas.{length-column, column-read, column-push, parent-at}
use Rattle.iso_plan.specs.Locks.{holds_isolated, is_locking, is_that, locking_node}
use Rattle.iso_plan.specs.Paths.{column, is_root, is_top}
use Rattle.iso_plan.specs.RowView.{row_of}
use Rattle.iso_plan.specs.Tables.{own_table, with_first}
use Rattle.iso_plan.proofs.locks.own_tables.Goals as goal
use Rattle.iso_plan.proofs.locks.own_tables.Goals.{then-repeated-n, else-repeated-n+in_ok-table}

abbrev accesses : Vec (Option Access) Global → List (Option Access)
accesses v = v.items

pub bounds-isolated-n : goal.bounds-isolated-n
bounds-isolated-n c =
    let rows = c.args.rows.now in
    let count : length c.args.isolated.now ≡ length rows = ap length c.requires.isolated ∙ length-column (holds_isolated (map row_of rows)) (length rows) in
    omega arith

pub bounds-locking-n : goal.bounds-locking-n
bounds-locking-n c =
    let rows = c.args.rows.now in
    let count : length c.args.locking.now ≡ length rows = ap length c.requires.locking ∙ length-column (locking_node (map row_of rows)) (length rows) in
    omega arith

pub nodes-preserved : goal.nodes-preserved
nodes-preserved c =
    let rows = c.args.rows.now in
    let tree = map row_of rows in
    let n = c.nodes.n in
    let k = c.args.count in
    let v = c.nodes.tables in
    let left : Bool → List (Option Access) = λ b. cond b [] (own_table tree k n) in
    let made : Bool → Bool → Bool → List (Option Access) = λ t i l. with_first (cond t (Some (cond i Write Read)) None) (replicate (cond (t || l) k 0) None) in
    let isolated = column-read (holds_isolated tree) c.args.isolated.now (length rows) n false c.requires.isolated (omega arith) in
    let this : accesses c.if-repeated-n.table ≡ left (get_or c.args.repeated.now n false) =
    elim c.if-repeated-n.branch [
      | then-repeated-n w ↦ ap accesses w.table-is ∙ w.new-table.ensures.items ∙ sym (ap left w.if-repeated-n.true)
      | else-repeated-n+in_ok-table w ↦
          let top : w.is_top-top.result ≡ is_top tree n = w.is_top-top.ensures ∙ ap (λ (p : ℕ). not (is_root n) && is_root p) (sym (parent-at rows n w.index-rows-n.result (omega arith))) in
          let locking : w.is_that-locks.result ≡ is_locking tree n = w.is_that-locks.ensures
          ∙ ap (λ (o : Option ℕ). is_that o n) (column-read (locking_node tree) c.args.locking.now (length rows) n None c.requires.locking (omega arith)) in
          ap accesses w.table-is ∙ w.in_ok-table.ensures ∙ ap₂ (λ (t i : Bool). made t i w.is_that-locks.result) top isolated ∙ ap (made (is_top tree n) (holds_isolated tree n)) locking
          ∙ sym (ap left w.if-repeated-n.false)
    ] in
    ap (map accesses) c.in_ok-push.ensures.items ∙ map_push accesses v.items c.if-repeated-n.table
    ∙ column-push (λ m. cond (get_or c.args.repeated.now m false) [] (own_table tree k m)) (map accesses v.items) n (accesses c.if-repeated-n.table) c.nodes.invariant this

pub returns : goal.returns
returns c =
    let last : c.nodes.n ≡ length c.args.rows.now = omega arith in
    c.nodes.invariant ∙ ap (column (λ m. cond (get_or c.args.repeated.now m false) [] (own_table (map row_of c.args.rows.now) c.args.count m))) last
