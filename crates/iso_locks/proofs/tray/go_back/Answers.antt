use Rattle.std.proofs.Common.{◌≡◌, length, Option, unwrap_or, ap, sym, ◌∙◌}
use Rattle.iso_locks.proofs.UndoLemmas.{CanGoBack, later-by, others-none, restored-by, restored-none}
use Rattle.iso_locks.specs.Slots.{Slots, slot}
use Rattle.iso_locks.specs.Trays.{SavepointView, restored}
use Rattle.iso_locks.proofs.tray.go_back.Goals as goal

pub undo_unchanged-requires-clause-fits : goal.undo_unchanged-requires-clause-fits
undo_unchanged-requires-clause-fits c =
    let is : c.in-Some.kept ≡ c.args.mark.values = ap (λ (o : Option Slots). unwrap_or o c.mark.inside.then.value) (sym c.in-Some.is) ∙ ap (λ (m : SavepointView). m.values) c.mark.view_is in
    ap length is ∙ c.requires.fits

pub undo_unchanged-requires-clause-later : goal.undo_unchanged-requires-clause-later
undo_unchanged-requires-clause-later c =
    let is : c.in-Some.kept ≡ c.args.mark.values = ap (λ (o : Option Slots). unwrap_or o c.mark.inside.then.value) (sym c.in-Some.is) ∙ ap (λ (m : SavepointView). m.values) c.mark.view_is in
    λ i h e. c.requires.later i h (ap (λ (vs : Slots). slot vs i) (sym is) ∙ e)

pub undo_changed-requires-clause-fits : goal.undo_changed-requires-clause-fits
undo_changed-requires-clause-fits c =
    let is : c.in-Some.kept ≡ c.args.mark.values = ap (λ (o : Option Slots). unwrap_or o c.mark.inside.then.value) (sym c.in-Some.is) ∙ ap (λ (m : SavepointView). m.values) c.mark.view_is in
    ap length is ∙ c.requires.fits ∙ sym c.undo_unchanged.ensures.fits

pub undo_changed-requires-clause-later : goal.undo_changed-requires-clause-later
undo_changed-requires-clause-later c =
    let is : c.in-Some.kept ≡ c.args.mark.values = ap (λ (o : Option Slots). unwrap_or o c.mark.inside.then.value) (sym c.in-Some.is) ∙ ap (λ (m : SavepointView). m.values) c.mark.view_is in
    let later : CanGoBack c.in-Some.kept c.args.values.now = λ i h e. c.requires.later i h (ap (λ (vs : Slots). slot vs i) (sym is) ∙ e) in
    later-by c.in-Some.kept c.args.values.now c.undo_unchanged.new.values later c.undo_unchanged.ensures.back c.undo_unchanged.ensures.others

pub returns-in-Some : goal.returns-in-Some
returns-in-Some c =
    let is : c.in-Some.kept ≡ c.args.mark.values = ap (λ (o : Option Slots). unwrap_or o c.mark.inside.then.value) (sym c.in-Some.is) ∙ ap (λ (m : SavepointView). m.values) c.mark.view_is in
    restored-by c.in-Some.kept c.args.values.now c.undo_unchanged.new.values c.undo_changed.new.values c.undo_changed.ensures c.undo_unchanged.ensures.fits
    (others-none c.in-Some.kept c.args.values.now c.undo_unchanged.new.values c.undo_unchanged.ensures.others)
    ∙ ap (λ (marks : Slots). restored marks c.args.values.now) is

pub returns : goal.returns
returns c =
    let then = c.mark.inside.then.value in
    let is : then ≡ c.args.mark.values = ap (λ (o : Option Slots). unwrap_or o then) (sym c.in_default.is) ∙ ap (λ (m : SavepointView). m.values) c.mark.view_is in
    restored-none then c.args.values.now (c.mark.invariant c.in_default.is) ∙ ap (λ (marks : Slots). restored marks c.args.values.now) is
