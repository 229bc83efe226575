use Rattle.std.proofs.Common.{[], ◌∷◌, ◌+◌, ℕ, List, length, map, drop, vec_len, arith, ◌∙◌}
use Rattle.std.proofs.lemmas.Result.{err_from_is_err_and, on_ok_weaker}
use Rattle.iso_model.specs.ScriptView.{member_of, members_of}
use Rattle.iso_plan.proofs.Growth.{drop_next, grown-next, class-is, grown-first, counted, bounded, full-first, full-more, full-rest}
use Rattle.iso_plan.specs.RowView.{row_of, title_of}
use Rattle.iso_plan.specs.Tree as T
use Rattle.iso_plan.specs.Tree.{class_row, member_rows, members_rows}
use Rattle.iso_plan.proofs.tree.+growth.Goals as goal

pub add_members-members-preserved : goal.add_members-members-preserved
add_members-members-preserved t c =
    let i = c.members.member-index in
    let ms = c.args.members.now in
    let next = drop_next c.member-item.result ms i (omega arith) c.member-item.is in
    let rest : ℕ → List T.Row = λ n. members_rows c.args.parent n (members_of (map member_of (drop (i + 1) ms))) in
    let old = c.members.rows in
    let new = c.add_member.new.rows in
    let more = member_rows c.args.parent (vec_len old) (member_of c.member-item.result) in
    let ok = c.in_ok-add_member.ensures.ok in
    record {
      fits = c.in_ok-add_member.ensures.fits;
      grown = grown-next (map row_of old.items) (map row_of new.items) more rest (vec_len old) (vec_len new) ok (counted old new more ok) ∙ rw next at c.members.invariant.grown;
    }

pub add_members-returns-in_err-add_member-clause-full : goal.add_members-returns-in_err-add_member-clause-full
add_members-returns-in_err-add_member-clause-full t c =
    let i = c.members.member-index in
    let ms = c.args.members.now in
    let next = drop_next c.member-item.result ms i (omega arith) c.member-item.is in
    let old = c.members.rows in
    let more = member_rows c.args.parent (vec_len old) (member_of c.member-item.result) in
    let all = members_rows c.args.parent (vec_len c.args.rows.now) (members_of (map member_of ms)) in
    let p = err_from_is_err_and c.from_residual.result c.from_residual.ensures.1 in
    rw (p.1, p.2)
    (full-more c.args.most _ _ c.in_err-add_member.field-0.0
    (bounded old c.args.rows.now more (members_rows c.args.parent (vec_len old + length more) (members_of (map member_of (drop (i + 1) ms)))) all (rw next at c.members.invariant.grown))
    c.in_err-add_member.ensures.full)

pub add_class-returns-in_err-add-clause-full : goal.add_class-returns-in_err-add-clause-full
add_class-returns-in_err-add-clause-full t c =
    let n = vec_len c.args.rows.now in
    let class = c.args.class.now in
    let p = err_from_is_err_and c.from_residual-in_err-add.result c.from_residual-in_err-add.ensures.1 in
    rw (p.1, p.2, class-is class)
    (full-first c.args.most n (class_row c.args.parent (title_of class)) (members_rows n (n + 1) (members_of (map member_of class.members.items))) c.in_err-add.field-0.0 c.in_err-add.ensures.full)

pub add_class-returns-clause-ok : goal.add_class-returns-clause-ok
add_class-returns-clause-ok t c =
    let old = c.args.rows.now in
    let mid = c.add.new.rows in
    let class = c.args.class.now in
    let row = row_of c.in_ok-class_row.field-0 in
    let first = c.in_ok-add.ensures.ok in
    rw (class-is class)
    (on_ok_weaker c.add_members.result
    (grown-first (map row_of old.items) (map row_of mid.items) (map row_of c.add_members.new.rows.items) row (class_row c.args.parent (title_of class)) c.len-number.result (vec_len old)
    (vec_len mid) c.deref.result.now class.members.items first c.in_ok-class_row.ensures c.len-number.ensures (counted old mid (row ∷ []) first) c.deref.ensures.value)
    c.add_members.ensures.ok)

pub add_class-returns-clause-full : goal.add_class-returns-clause-full
add_class-returns-clause-full t c =
    let old = c.args.rows.now in
    let mid = c.add.new.rows in
    let class = c.args.class.now in
    let row = row_of c.in_ok-class_row.field-0 in
    rw (class-is class)
    (full-rest c.args.most c.add_members.result (class_row c.args.parent (title_of class)) c.len-number.result (vec_len old) (vec_len mid) c.deref.result.now class.members.items
    c.len-number.ensures (counted old mid (row ∷ []) c.in_ok-add.ensures.ok) c.deref.ensures.value c.add_members.ensures.full)
