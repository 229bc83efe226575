use Rattle.std.proofs.Common.{◌+◌, ◌++◌, ℕ, List, length, map, drop, vec_len, arith, ap, sym, ◌∙◌}
use Rattle.std.proofs.lemmas.List.{append-nil, drop_all}
use Rattle.std.proofs.lemmas.Result.{err_from_is_err_and}
use Rattle.iso_model.specs.ScriptView.{class_of}
use Rattle.iso_model.specs.declared.script.Class.{Class}
use Rattle.iso_plan.proofs.Growth.{drop_next, grown-next, counted, bounded, full-more}
use Rattle.iso_plan.specs.RowView.{row_of}
use Rattle.iso_plan.specs.Tree as T
use Rattle.iso_plan.specs.Tree.{team_rows, top_rows}
use Rattle.iso_plan.proofs.tree.add_team.Goals as goal

pub classes-preserved : goal.classes-preserved
classes-preserved c =
    let i = c.classes.class-index in
    let cs = c.deref-class-items.result.now in
    let next = drop_next c.class-item.result cs i (omega arith) c.class-item.is in
    let team = c.args.script.now.team in
    let rest : ℕ → List T.Row = λ n. team_rows team n (map class_of (drop (i + 1) cs)) in
    let old = c.classes.rows in
    let new = c.add_top.new.rows in
    let more = top_rows team (vec_len old) (class_of c.class-item.result) in
    let ok = c.in_ok-add_top.ensures.ok in
    record {
      fits = c.in_ok-add_top.ensures.fits;
      grown = grown-next (map row_of old.items) (map row_of new.items) more rest (vec_len old) (vec_len new) ok (counted old new more ok) ∙ rw next at c.classes.invariant.grown;
    }

pub returns-in_err-add_top-clause-full : goal.returns-in_err-add_top-clause-full
returns-in_err-add_top-clause-full c =
    let i = c.classes.class-index in
    let cs = c.deref-class-items.result.now in
    let next = drop_next c.class-item.result cs i (omega arith) c.class-item.is in
    let old = c.classes.rows in
    let team = c.args.script.now.team in
    let more = top_rows team (vec_len old) (class_of c.class-item.result) in
    let all = team_rows team (vec_len c.args.rows.now) (map class_of cs) in
    let p = err_from_is_err_and c.from_residual.result c.from_residual.ensures.1 in
    rw (p.1, p.2, ← c.deref-class-items.ensures.value)
    (full-more c.args.most _ _ c.in_err-add_top.field-0.0
    (bounded old c.args.rows.now more (team_rows team (vec_len old + length more) (map class_of (drop (i + 1) cs))) all (rw next at c.classes.invariant.grown)) c.in_err-add_top.ensures.full)

pub returns-clause-ok : goal.returns-clause-ok
returns-clause-ok c =
    let cs = c.deref-class-items.result.now in
    let old = c.args.rows.now in
    let team = c.args.script.now.team in
    sym (append-nil (map row_of c.classes.rows.items)) ∙ rw (drop_all c.classes.class-index cs (omega arith)) at c.classes.invariant.grown
    ∙ ap (λ (ks : List Class). map row_of old.items ++ team_rows team (vec_len old) (map class_of ks)) c.deref-class-items.ensures.value
