use Rattle.std.proofs.Common.{◌≡◌, ◌<◌, ◌≤◌, ℕ, List, None, length, map, refl, ap, sym, subst, ◌∙◌, arith}
use Rattle.std.proofs.lemmas.List.{length-map}
use Rattle.std.proofs.lemmas.Result.{err_from_is_err_and}
use Rattle.iso_model.specs.ScriptView.{script_of}
use Rattle.iso_model.specs.Scripts.{Script}
use Rattle.iso_model.specs.declared.limits.TheConstants.{NODES}
use Rattle.iso_plan.proofs.FaultLemmas.{full-none, full-refused, later, none-of, sooner}
use Rattle.iso_plan.proofs.SelectFirst.{count-first, left-earlier, select-first, written-rooted, written-unknown}
use Rattle.iso_plan.specs.Faults.{IsFaultOf, full_fault, nodes_fault, not_selected, PlanError}
use Rattle.iso_plan.specs.Paths.{IsRooted, StandEarlier}
use Rattle.iso_plan.specs.RowView.{row_of}
use Rattle.iso_plan.specs.KeptNodes.{first_unknown, plan_tree, selection, texts_of}
use Rattle.iso_plan.specs.Tree as T
use Rattle.iso_plan.specs.Tree.{effective_row, tree, written_tree}
use Rattle.iso_model.specs.declared.input_error.InputError.TheVariants.{Fault}
use Rattle.iso_plan.specs.declared.fault.PlanFault.TheVariants.{TooManyNodes}
use Rattle.iso_plan.proofs.nodes.kept_rows.Goals as goal

-- the kept nodes, as they are written
kept_written : (ss : List Script) (only : List (List ℕ)) (rows kept : List T.Row) → rows ≡ written_tree ss → kept ≡ selection rows only → kept ≡ selection (written_tree ss) only
kept_written ss only rows kept is e = e ∙ ap (λ (rs : List T.Row). selection rs only) is

-- they are as many as those of the plan
as_many : (ss : List Script) (only : List (List ℕ)) (rows kept : List T.Row) → rows ≡ written_tree ss → kept ≡ selection rows only → length (plan_tree ss only) ≡ length kept
as_many ss only rows kept is e = sym (ap length (kept_written ss only rows kept is e) ∙ count-first ss only)

-- the first path that names none of the written nodes names none of the tree
unknown_written : (ss : List Script) (only : List (List ℕ)) (rows : List T.Row) → rows ≡ written_tree ss → first_unknown (tree ss) only ≡ first_unknown rows only
unknown_written ss only rows is = sym (ap (λ (rs : List T.Row). first_unknown rs only) is ∙ written-unknown ss only)

known_written : (ss : List Script) (only : List (List ℕ)) (rows : List T.Row) → rows ≡ written_tree ss → first_unknown rows only ≡ None → not_selected (first_unknown (tree ss) only) ≡ None
known_written ss only rows is known = ap not_selected (unknown_written ss only rows is ∙ known)

refused_by : (ss : List Script) (only : List (List ℕ)) (rows : List T.Row) (e : PlanError) → rows ≡ written_tree ss
    → IsFaultOf (not_selected (first_unknown rows only)) e → IsFaultOf (nodes_fault ss only) e
refused_by ss only rows e is why =
    sooner (not_selected (first_unknown (tree ss) only)) (full_fault (plan_tree ss only)) e
    (subst (λ o. IsFaultOf (not_selected o) e) (sym (unknown_written ss only rows is)) why)

full_by : (ss : List Script) (only : List (List ℕ)) → not_selected (first_unknown (tree ss) only) ≡ None → NODES < length (plan_tree ss only) → IsFaultOf (nodes_fault ss only) (Fault TooManyNodes)
full_by ss only known many =
    later (not_selected (first_unknown (tree ss) only)) (full_fault (plan_tree ss only)) (Fault TooManyNodes) known (full-refused (plan_tree ss only) (Fault TooManyNodes) (refl, many))

fits_by : (ss : List Script) (only : List (List ℕ)) → not_selected (first_unknown (tree ss) only) ≡ None → length (plan_tree ss only) ≤ NODES → nodes_fault ss only ≡ None
fits_by ss only known few = none-of (not_selected (first_unknown (tree ss) only)) (full_fault (plan_tree ss only)) known (full-none (plan_tree ss only) few)

pub selection-requires-clause-tree : goal.selection-requires-clause-tree
selection-requires-clause-tree c = subst (λ (rs : List T.Row). IsRooted rs) (sym c.in-Ok.ensures.tree) (written-rooted (map script_of c.args.scripts.now))

pub returns-in_err-kept-clause-refused : goal.returns-in_err-kept-clause-refused
returns-in_err-kept-clause-refused c =
    let p = err_from_is_err_and c.from_residual.result c.from_residual.ensures.1 in
    let rows = map row_of c.in-Ok.rows.items in
    rw (p.1, p.2) (refused_by (map script_of c.args.scripts.now) (texts_of c.args.only.now) rows c.in_err-kept.field-0.0 c.in-Ok.ensures.tree c.in_err-kept.ensures.unknown)

pub returns-then-len-clause-refused : goal.returns-then-len-clause-refused
returns-then-len-clause-refused c =
    let ss = map script_of c.args.scripts.now in
    let only = texts_of c.args.only.now in
    let rows = map row_of c.in-Ok.rows.items in
    let kept = c.in_ok-kept.kept in
    let count = as_many ss only rows (map row_of kept.items) c.in-Ok.ensures.tree c.in_ok-kept.ensures.kept in
    let long : length (map row_of kept.items) ≡ length kept.items = length-map kept.items row_of in
    let is = c.len.ensures in
    let more = c.if-len.true in
    let many : NODES < length (plan_tree ss only) = omega (arith, kept.ok.0) in
    full_by ss only (known_written ss only rows c.in-Ok.ensures.tree c.in_ok-kept.ensures.known) many

pub make_effective-requires : goal.make_effective-requires
make_effective-requires c =
    let ss = map script_of c.args.scripts.now in
    let only = texts_of c.args.only.now in
    let kept = map row_of c.in_ok-kept.kept.items in
    subst (λ (rs : List T.Row). StandEarlier rs) (sym (kept_written ss only (map row_of c.in-Ok.rows.items) kept c.in-Ok.ensures.tree c.in_ok-kept.ensures.kept)) (left-earlier ss only)

pub returns-clause-tree : goal.returns-clause-tree
returns-clause-tree c =
    let ss = map script_of c.args.scripts.now in
    let only = texts_of c.args.only.now in
    let kept = map row_of c.in_ok-kept.kept.items in
    c.in_ok-make_effective.ensures
    ∙ ap (λ (rs : List T.Row). map (effective_row rs) rs) (kept_written ss only (map row_of c.in-Ok.rows.items) kept c.in-Ok.ensures.tree c.in_ok-kept.ensures.kept)
    ∙ select-first ss only

pub returns-clause-fits : goal.returns-clause-fits
returns-clause-fits c =
    let kept = c.in_ok-kept.kept in
    let new = c.make_effective.new.rows in
    let nodes = map row_of kept.items in
    let same : length new.items ≡ length kept.items =
    sym (length-map new.items row_of) ∙ ap length c.in_ok-make_effective.ensures ∙ length-map nodes (effective_row nodes) ∙ length-map kept.items row_of in
    let is = c.len.ensures in
    let few = c.if-len.false in
    omega (arith, kept.ok.0)

pub returns-clause-accepted : goal.returns-clause-accepted
returns-clause-accepted c =
    let ss = map script_of c.args.scripts.now in
    let only = texts_of c.args.only.now in
    let rows = map row_of c.in-Ok.rows.items in
    let kept = c.in_ok-kept.kept in
    let count = as_many ss only rows (map row_of kept.items) c.in-Ok.ensures.tree c.in_ok-kept.ensures.kept in
    let long : length (map row_of kept.items) ≡ length kept.items = length-map kept.items row_of in
    let is = c.len.ensures in
    let less = c.if-len.false in
    let few : length (plan_tree ss only) ≤ NODES = omega (arith, kept.ok.0) in
    fits_by ss only (known_written ss only rows c.in-Ok.ensures.tree c.in_ok-kept.ensures.known) few
