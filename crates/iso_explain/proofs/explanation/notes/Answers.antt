use Rattle.std.proofs.Common.{List, ℕ, Ok, Option, ap₂, option_map}
use Rattle.iso_explain.specs.Bounds.{bound_note}
use Rattle.iso_explain.specs.Mending.{hint_of, other_of}
use Rattle.iso_explain.specs.Notes.{brace_note, first_note, mending_note}
use Rattle.iso_tap.proofs.PrinterLemmas.{prints_as, prints_cut, prints_stopped, prints_then}
use Rattle.iso_explain.proofs.explanation.notes.Goals as goal

pub returns-in_err-mending : goal.returns-in_err-mending
returns-in_err-mending g c bytes at =
    let told = c.args.explained.now in
    let meant = option_map (λ w. w.now) c.args.meant in
    let mended = prints_as c.in_err-mending.ensures (mending_note (hint_of bytes told) meant (other_of bytes told))
    (ap₂ (λ (h o : Option (List ℕ)). mending_note h meant o) (c.hint_of-hint.ensures bytes at) (c.other_of-other.ensures bytes at)) in
    prints_stopped (bound_note told.fault.kind told.reason) _ c.from_residual.ensures.0
    (prints_cut (brace_note told) _ _ (prints_cut (first_note told.first) _ _ mended))

pub returns-in_err-first : goal.returns-in_err-first
returns-in_err-first g c bytes at =
    let told = c.args.explained.now in
    let meant = option_map (λ w. w.now) c.args.meant in
    let mended = prints_as {r = Ok tt} c.in_ok-mending.ensures (mending_note (hint_of bytes told) meant (other_of bytes told))
    (ap₂ (λ (h o : Option (List ℕ)). mending_note h meant o) (c.hint_of-hint.ensures bytes at) (c.other_of-other.ensures bytes at)) in
    prints_stopped (bound_note told.fault.kind told.reason) _ c.from_residual-in_err-first.ensures.0
    (prints_cut (brace_note told) _ _ (prints_then _ mended c.in_err-first.ensures))

pub returns-in_err-brace : goal.returns-in_err-brace
returns-in_err-brace g c bytes at =
    let told = c.args.explained.now in
    let meant = option_map (λ w. w.now) c.args.meant in
    let mended = prints_as {r = Ok tt} c.in_ok-mending.ensures (mending_note (hint_of bytes told) meant (other_of bytes told))
    (ap₂ (λ (h o : Option (List ℕ)). mending_note h meant o) (c.hint_of-hint.ensures bytes at) (c.other_of-other.ensures bytes at)) in
    prints_stopped (bound_note told.fault.kind told.reason) _ c.from_residual-in_err-brace.ensures.0
    (prints_then _ (prints_then (Ok tt) mended c.in_ok-first.ensures) c.in_err-brace.ensures)

pub returns : goal.returns
returns g c bytes at =
    let told = c.args.explained.now in
    let meant = option_map (λ w. w.now) c.args.meant in
    let mended = prints_as {r = Ok tt} c.in_ok-mending.ensures (mending_note (hint_of bytes told) meant (other_of bytes told))
    (ap₂ (λ (h o : Option (List ℕ)). mending_note h meant o) (c.hint_of-hint.ensures bytes at) (c.other_of-other.ensures bytes at)) in
    prints_then _ (prints_then (Ok tt) (prints_then (Ok tt) mended c.in_ok-first.ensures) c.in_ok-brace.ensures) c.bound.ensures
