use Rattle.std.proofs.Common.{◌∷◌, [], ◌++◌, ◌+◌, List, drop, ap, sym, ◌∙◌, arith}
use Rattle.std.proofs.lemmas.List.{append-nil, append_assoc, drop_all}
use Rattle.iso_model.specs.Targets.{marks_for}
use Rattle.iso_model.specs.declared.heads.Mark.{Mark}
use Rattle.iso_plan.proofs.EffectiveLemmas.{marks_for-next}
use Rattle.iso_plan.proofs.Growth.{drop_next}
use Rattle.iso_plan.proofs.children_marks.add_marks.Goals as goal

pub marks-preserved : goal.marks-preserved
marks-preserved c =
    let i = c.marks.mark-index in
    let ms = c.args.written.now in
    let m = c.mark-item.result in
    let t = c.args.target in
    let old = c.marks.marks.items in
    let left = drop (i + 1) ms in
    let next = drop_next m ms i (omega arith) c.mark-item.is in
    ap (λ (xs : List Mark). xs ++ marks_for t left) c.in_ok-add_mark.ensures
    ∙ append_assoc old (marks_for t (m ∷ [])) (marks_for t left)
    ∙ ap (λ (xs : List Mark). old ++ xs) (sym (marks_for-next t m left) ∙ ap (marks_for t) (sym next))
    ∙ c.marks.invariant

pub returns : goal.returns
returns c = sym (append-nil c.marks.marks.items) ∙ rw (drop_all c.marks.mark-index c.args.written.now (omega arith)) at c.marks.invariant
