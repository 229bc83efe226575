use Rattle.std.proofs.Common.{[], ◌∷◌, ◌+◌, map, vec_len}
use Rattle.std.proofs.lemmas.Result.{err_from_is_err_and, on_ok_weaker}
use Rattle.iso_model.specs.ScriptView.{member_of, members_of}
use Rattle.iso_plan.proofs.Growth.{class-is, counted, full-first, full-rest, grown-first}
use Rattle.iso_plan.specs.RowView.{row_of, title_of}
use Rattle.iso_plan.specs.Tree.{members_rows, top_row}
use Rattle.iso_plan.proofs.tree.add_top.Goals as goal

pub returns-in_err-add-clause-full : goal.returns-in_err-add-clause-full
returns-in_err-add-clause-full c =
    let n = vec_len c.args.rows.now in
    let class = c.args.class.now in
    let p = err_from_is_err_and c.from_residual-in_err-add.result c.from_residual-in_err-add.ensures.1 in
    rw (p.1, p.2, class-is class)
    (full-first c.args.most n (top_row c.args.team.now (title_of class)) (members_rows n (n + 1) (members_of (map member_of class.members.items))) c.in_err-add.field-0.0 c.in_err-add.ensures.full)

pub returns-clause-ok : goal.returns-clause-ok
returns-clause-ok c =
    let old = c.args.rows.now in
    let mid = c.add.new.rows in
    let class = c.args.class.now in
    let row = row_of c.in_ok-top_row.field-0 in
    let first = c.in_ok-add.ensures.ok in
    rw (class-is class)
    (on_ok_weaker c.add_members.result
    (grown-first (map row_of old.items) (map row_of mid.items) (map row_of c.add_members.new.rows.items) row (top_row c.args.team.now (title_of class)) c.len-number.result (vec_len old)
    (vec_len mid) c.deref.result.now class.members.items first c.in_ok-top_row.ensures c.len-number.ensures (counted old mid (row ∷ []) first) c.deref.ensures.value)
    c.add_members.ensures.ok)

pub returns-clause-full : goal.returns-clause-full
returns-clause-full c =
    let old = c.args.rows.now in
    let mid = c.add.new.rows in
    let class = c.args.class.now in
    let row = row_of c.in_ok-top_row.field-0 in
    rw (class-is class)
    (full-rest c.args.most c.add_members.result (top_row c.args.team.now (title_of class)) c.len-number.result (vec_len old) (vec_len mid) c.deref.result.now class.members.items
    c.len-number.ensures (counted old mid (row ∷ []) c.in_ok-add.ensures.ok) c.deref.ensures.value c.add_members.ensures.full)
