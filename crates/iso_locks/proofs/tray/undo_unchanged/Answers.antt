use Rattle.std.proofs.Common.{◌+◌, sym, subst, ◌∙◌, arith}
use Rattle.iso_locks.proofs.UndoLemmas.{restarting-all, restarting-none, restarting-with, restarting-without}
use Rattle.iso_locks.specs.Slots.{Slots}
use Rattle.iso_locks.proofs.UndoLemmas.{Restarting}
use Rattle.iso_locks.proofs.tray.undo_unchanged.Goals as goal
use Rattle.iso_locks.proofs.tray.undo_unchanged.Goals.{else-has_unchanged, then-has_unchanged}

pub changed-preserved : goal.changed-preserved
changed-preserved c =
    let marks = c.args.kept.now in
    let s0 = c.args.values.now in
    let s = c.changed.values in
    let n = c.in-Some.number in
    let told = c.in-Some.ensures.next in
    let r = c.changed.invariant.restarting in
    elim c.if-has_unchanged.branch [
      | then-has_unchanged w ↦
          let next = restarting-with marks s0 s c.if-has_unchanged.values c.changed.at n c.requires.later r told.0 told.1 told.3 (sym c.has_unchanged.ensures ∙ w.if-has_unchanged.true) (w.values-is ∙ w.restart.ensures) in
          record { within = omega (arith, told.1, r.fits, next.fits); restarting = next }
      | else-has_unchanged w ↦
          let next = restarting-without marks s0 s c.changed.at n c.requires.later r told.0 told.3 (sym c.has_unchanged.ensures ∙ w.if-has_unchanged.false) in
          let Same : Slots → Type 0 = λ vs. Restarting marks s0 vs (n + 1) in
          let same = subst Same (sym w.values-is) next in
          record { within = omega (arith, told.1, r.fits, same.fits); restarting = same }
    ]

pub returns-clause-back : goal.returns-clause-back
returns-clause-back c = restarting-all c.args.kept.now c.args.values.now c.changed.values c.changed.at c.requires.later c.changed.invariant.restarting c.in_default.ensures.next

pub returns-clause-fits : goal.returns-clause-fits
returns-clause-fits c = c.changed.invariant.restarting.fits

pub returns-clause-others : goal.returns-clause-others
returns-clause-others c = c.changed.invariant.restarting.others

pub changed-init : goal.changed-init
changed-init c = record { within = omega arith; restarting = restarting-none c.args.kept.now c.args.values.now }
