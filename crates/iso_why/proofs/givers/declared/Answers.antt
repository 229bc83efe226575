use Rattle.std.proofs.Common.{◌≡◌, ◌+◌, [], None, drop, sym, ap, ◌∙◌, arith}
use Rattle.std.proofs.lemmas.List.{drop_all, drop_more, get_or_read}
use Rattle.iso_model.proofs.RightsLemmas.{strongest-none}
use Rattle.iso_model.specs.Rights.{declared_by, rights_of, strongest}
use Rattle.iso_model.specs.declared.heads.Mark.{Mark}
use Rattle.iso_why.proofs.GiverLemmas.{mark-more}
use Rattle.iso_why.proofs.givers.declared.Goals as goal

pub marks-preserved : goal.marks-preserved
marks-preserved c =
    let ms = c.args.marks.now in
    let k = c.args.key.now in
    let i = c.marks.mark-index in
    let m = c.mark-item.result in
    let next = drop_more ms i m c.marks-test.true in
    let here = sym c.mark-item.is in
    let rest = rights_of (drop (i + 1) ms) k in
    ap (λ a. strongest a rest) c.with_mark-found.ensures
    ∙ sym (mark-more c.marks.found (declared_by m k) rest)
    ∙ ap (λ (x : Mark). strongest c.marks.found (strongest (declared_by x k) rest)) c.mark-item.is
    ∙ sym (ap (λ xs. strongest c.marks.found (rights_of xs k)) next)
    ∙ c.marks.invariant

pub returns : goal.returns
returns c =
    let none : drop c.marks.mark-index c.args.marks.now ≡ [] = drop_all c.marks.mark-index c.args.marks.now c.marks-test.false in
    sym (strongest-none c.marks.found) ∙ sym (ap (λ xs. strongest c.marks.found (rights_of xs c.args.key.now)) none) ∙ c.marks.invariant
