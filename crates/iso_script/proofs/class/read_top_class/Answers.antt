use Rattle.std.proofs.Common.{[]}
use Rattle.std.proofs.lemmas.Result.{err_from_is_err_and}
use Rattle.iso_model.specs.ScriptView.{class_of}
use Rattle.iso_script.specs.Marks.{marks_of}
use Rattle.iso_script.specs.Grammar.{IsClass, IsTopClass}
use Rattle.iso_script.proofs.Classes.{marks_next, not_next, not_named, top_next, top_inner, is_nested, name_stands}
use Rattle.iso_script.proofs.Places.{placed_from}
use Rattle.iso_script.proofs.Scopes.{know_none}
use Rattle.iso_script.proofs.WantsLemmas.{unmet_after_class_marks}
use Rattle.iso_script.proofs.class.read_top_class.Goals as goal

pub open_class-requires : goal.open_class-requires
open_class-requires c = rw c.wanted_of_a_class-wanted.ensures (unmet_after_class_marks c.in_ok-marks.ensures c.requires)

pub returns-in_err-marks : goal.returns-in_err-marks
returns-in_err-marks c =
    let p = err_from_is_err_and c.from_residual.result c.from_residual.ensures.1 in
    rw (p.1, p.2) (λ rest x places h. let k = marks_next h in c.in_err-marks.ensures k.0 k.1 k.2)

pub returns-in_err-more : goal.returns-in_err-more
returns-in_err-more c =
    let p = err_from_is_err_and c.from_residual-in_err-more.result c.from_residual-in_err-more.ensures.1 in
    rw (p.1, p.2) (λ rest x places h. absurd (not_next c.in_err-more.ensures (top_next c.in_ok-marks.ensures h)))

pub returns-in_err-name : goal.returns-in_err-name
returns-in_err-name c =
    let p = err_from_is_err_and c.from_residual-in_err-name.result c.from_residual-in_err-name.ensures.1 in
    rw (p.1, p.2) (λ rest x places h. absurd (not_named c.in_ok-more.ensures.1 c.in_err-name.ensures.0 (top_next c.in_ok-marks.ensures h)))

pub returns : goal.returns
returns c =
    let name = name_stands _ _ _ _ _ c.peek.ensures.next c.in_ok-name.ensures in
    placed_from class_of (IsClass _ [] (marks_of c.in_ok-marks.marks) c.in_ok-name.name.now _) IsTopClass _ _ _ _ _ _
    (λ x places rest. is_nested c.in_ok-marks.ensures c.in_ok-more.ensures.0 c.in_ok-more.ensures.1 name)
    (λ x places rest h. top_inner c.in_ok-more.ensures.0 c.in_ok-more.ensures.1 name (top_next c.in_ok-marks.ensures h))
    (c.read_class.ensures.read [] (rw c.new-scopes.ensures.items know_none))
