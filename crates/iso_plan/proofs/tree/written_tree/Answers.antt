use Rattle.std.proofs.Common.{◌≡◌, ◌+◌, ℕ, List, length, map, drop, vec_len, arith, ap, sym, ◌∙◌}
use Rattle.std.proofs.lemmas.List.{drop_all, append-nil, length-append, length-map}
use Rattle.std.proofs.lemmas.Result.{err_from_is_err_and}
use Rattle.iso_model.specs.ScriptView.{class_of, script_of}
use Rattle.iso_plan.proofs.Growth.{drop_next, grown-next, counted, full-more}
use Rattle.iso_plan.specs.RowView.{row_of}
use Rattle.iso_plan.specs.Tree as T
use Rattle.iso_plan.specs.Tree.{member_rows, members_rows, script_rows, team_rows, top_rows, written_tree}
use Rattle.iso_plan.proofs.tree.written_tree.Goals as goal

pub scripts-preserved : goal.scripts-preserved
scripts-preserved c =
    let i = c.scripts.script-index in
    let ss = c.args.scripts.now in
    let next = drop_next c.script-item.result ss i (omega arith) c.script-item.is in
    let rest : ℕ → List T.Row = λ n. script_rows n (map script_of (drop (i + 1) ss)) in
    let old = c.scripts.rows in
    let new = c.add_team.new.rows in
    let more = team_rows c.script-item.result.team (vec_len old) (map class_of c.script-item.result.classes.items) in
    let ok = c.in_ok-add_team.ensures.ok in
    record {
      fits = c.in_ok-add_team.ensures.fits;
      grown = grown-next (map row_of old.items) (map row_of new.items) more rest (vec_len old) (vec_len new) ok (counted old new more ok) ∙ rw next at c.scripts.invariant.grown;
    }

pub returns-in_err-add_team-clause-full : goal.returns-in_err-add_team-clause-full
returns-in_err-add_team-clause-full c =
    let i = c.scripts.script-index in
    let ss = c.args.scripts.now in
    let next = drop_next c.script-item.result ss i (omega arith) c.script-item.is in
    let old = c.scripts.rows in
    let more = team_rows c.script-item.result.team (vec_len old) (map class_of c.script-item.result.classes.items) in
    let rest = script_rows (vec_len old + length more) (map script_of (drop (i + 1) ss)) in
    let p = err_from_is_err_and c.from_residual-in_err-add_team.result c.from_residual-in_err-add_team.ensures.1 in
    let n : length old.items + (length more + length rest) ≡ length (written_tree (map script_of ss)) = simp (length-append, length-map) at (ap length (rw next at c.scripts.invariant.grown)) in
    rw (p.1, p.2) (full-more c.args.most _ _ c.in_err-add_team.field-0.0 (omega (arith, old.ok.0)) c.in_err-add_team.ensures.full)

pub returns-clause-tree : goal.returns-clause-tree
returns-clause-tree c = sym (append-nil (map row_of c.scripts.rows.items)) ∙ rw (drop_all c.scripts.script-index c.args.scripts.now (omega arith)) at c.scripts.invariant.grown
