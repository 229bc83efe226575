use Rattle.std.proofs.Common.{◌+◌, List, drop, ap, sym, ◌∙◌, arith}
use Rattle.std.proofs.lemmas.List.{drop_all}
use Rattle.iso_model.specs.declared.heads.Mark.{Mark}
use Rattle.iso_plan.proofs.Growth.{drop_next}
use Rattle.iso_plan.specs.Merged.{with_marks}
use Rattle.iso_plan.proofs.merged.merged.Goals as goal

pub marks-init : goal.marks-init
marks-init c = ap (λ (ns : List Mark). with_marks ns c.args.written.now) c.new-marks.ensures.items

pub marks-preserved : goal.marks-preserved
marks-preserved c =
    let i = c.marks.mark-index in
    let ms = c.args.written.now in
    let m = c.mark-item.result in
    let next = drop_next m ms i (omega arith) c.mark-item.is in
    ap (λ (ns : List Mark). with_marks ns (drop (i + 1) ms)) c.in_ok-add_mark.ensures
    ∙ ap (λ (xs : List Mark). with_marks c.marks.marks.items xs) (sym next) ∙ c.marks.invariant

pub returns : goal.returns
returns c = rw (drop_all c.marks.mark-index c.args.written.now (omega arith)) at c.marks.invariant
