use Rattle.std.proofs.Common.{◌++◌, ◌∷◌, [], sym, arith}
use Rattle.std.proofs.lemmas.Result.{err_from_is_err_and}
use Rattle.iso_script_statements.specs.Faults.{IsMemory}
use Rattle.iso_script.specs.Marks.{IsMarking}
use Rattle.iso_script.proofs.Readings.{read_push}
use Rattle.iso_script.proofs.Marks.{comes_to_more, marking_shorter, marks_refused}
use Rattle.iso_script.proofs.mark.read_marks.Goals as goal

pub marks-smaller : goal.marks-smaller
marks-smaller c = omega (arith, marking_shorter c.in_ok-add_mark.ensures.1)

pub marks-preserved : goal.marks-preserved
marks-preserved c =
    let i = c.marks.invariant in
    let a = c.in_ok-add_mark.ensures in
    (i.0 ++ a.0 ∷ [], read_push IsMarking _ _ _ _ _ i.1 a.1, comes_to_more _ _ _ _ i.2 a.2)

pub returns-in_err-add_mark : goal.returns-in_err-add_mark
returns-in_err-add_mark c =
    let p = err_from_is_err_and c.from_residual.result c.from_residual.ensures.1 in
    let i = c.marks.invariant in
    rw (p.1, p.2) (λ all rest h. marks_refused (IsMemory _) i.0 _ _ _ _ c.in_err-add_mark.ensures i.2 i.1 (sym c.in-Some.ensures) all rest h)
