use Rattle.std.proofs.Common.{◌≡◌, List, [], subst, arith}
use Rattle.std.proofs.lemmas.List.{nil_from_length}
use Rattle.iso_locks.proofs.UndoLemmas.{Restoring, restoring-all, restoring-first, restoring-next, within-by}
use Rattle.iso_locks.proofs.KeptLemmas.{of-last}
use Rattle.iso_locks.specs.Kept.{AreOf}
use Rattle.iso_locks.specs.declared.kept.KeptMark.{KeptMark}
use Rattle.iso_locks.proofs.tray.undo_changed.Goals as goal

pub marks-init : goal.marks-init
marks-init c = restoring-first c.args.kept c.args.values.now c.into_changed-marks.result.items c.into_changed-marks.ensures.marks c.into_changed-marks.ensures.all c.requires.later c.requires.back

pub undo_to-requires-clause-later : goal.undo_to-requires-clause-later
undo_to-requires-clause-later c =
    let r = c.marks.invariant in
    let are = subst (AreOf c.args.kept) c.in-Some.ensures.items r.left_are in
    r.later c.in-Some.changed.number c.in-Some.changed.mark (of-last c.args.kept c.pop.new.self.items c.in-Some.changed are)

pub undo_to-requires-clause-slot : goal.undo_to-requires-clause-slot
undo_to-requires-clause-slot c =
    let r = c.marks.invariant in
    let are = subst (AreOf c.args.kept) c.in-Some.ensures.items r.left_are in
    within-by c.marks.values c.in-Some.changed.number c.in-Some.changed.mark (r.later c.in-Some.changed.number c.in-Some.changed.mark (of-last c.args.kept c.pop.new.self.items c.in-Some.changed are))

pub marks-preserved : goal.marks-preserved
marks-preserved c =
    let r = c.marks.invariant in
    let are = subst (AreOf c.args.kept) c.in-Some.ensures.items r.left_are in
    let within = within-by c.marks.values c.in-Some.changed.number c.in-Some.changed.mark (r.later c.in-Some.changed.number c.in-Some.changed.mark (of-last c.args.kept c.pop.new.self.items c.in-Some.changed are)) in
    restoring-next c.args.kept c.args.values.now c.marks.values c.undo_to.new.self c.marks.marks.items c.pop.new.self.items c.in-Some.changed r c.in-Some.ensures.items within c.undo_to.ensures

pub returns : goal.returns
returns c =
    let gone = c.in_default.ensures.cases in
    let empty : c.marks.marks.items ≡ [] = nil_from_length c.marks.marks.items (omega (arith, c.marks.marks.ok.0, gone.0)) in
    restoring-all c.args.kept c.args.values.now c.marks.values (subst (λ (ks : List KeptMark). Restoring c.args.kept c.args.values.now ks c.marks.values) empty c.marks.invariant)
