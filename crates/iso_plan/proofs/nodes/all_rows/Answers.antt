use Rattle.std.proofs.Common.{◌≡◌, List, length, map, ap, sym, subst, ◌∙◌, arith}
use Rattle.std.proofs.lemmas.List.{length-map}
use Rattle.std.proofs.lemmas.Result.{err_from_is_err_and}
use Rattle.iso_model.specs.ScriptView.{script_of}
use Rattle.iso_plan.proofs.TreeLemmas.{written-placed}
use Rattle.iso_plan.specs.Paths.{StandEarlier}
use Rattle.iso_plan.specs.RowView.{row_of}
use Rattle.iso_plan.specs.Tree as T
use Rattle.iso_plan.specs.Tree.{effective_row, written_tree}
use Rattle.iso_plan.proofs.nodes.all_rows.Goals as goal

pub make_effective-requires : goal.make_effective-requires
make_effective-requires c = subst StandEarlier (sym c.in_ok-rows.ensures.tree) (written-placed (map script_of c.args.scripts.now))

pub returns-clause-tree : goal.returns-clause-tree
returns-clause-tree c = c.in_ok-make_effective.ensures ∙ ap (λ (rs : List T.Row). map (effective_row rs) rs) c.in_ok-rows.ensures.tree

pub returns-clause-fits : goal.returns-clause-fits
returns-clause-fits c =
    let old = c.in_ok-rows.rows in
    let new = c.make_effective.new.rows in
    let nodes = map row_of old.items in
    let as_many : length new.items ≡ length old.items =
    sym (length-map new.items row_of) ∙ ap length c.in_ok-make_effective.ensures ∙ length-map nodes (effective_row nodes) ∙ length-map old.items row_of in
    let fits = c.in_ok-rows.ensures.fits in
    omega (arith, old.ok.0)

pub returns-in_err-rows-clause-full : goal.returns-in_err-rows-clause-full
returns-in_err-rows-clause-full c =
    let ss = map script_of c.args.scripts.now in
    let p = err_from_is_err_and c.from_residual.result c.from_residual.ensures.1 in
    rw (p.1, p.2, length-map (written_tree ss) (effective_row (written_tree ss))) c.in_err-rows.ensures.full
