use Rattle.std.proofs.Common.{List, Ok, ap, codes, flat_map, ◌∙◌}
use Rattle.iso_html.specs.Modes.{lock_text}
use Rattle.iso_html.specs.Signs.{mode_word}
use Rattle.iso_plan.specs.Locks.{locks}
use Rattle.iso_plan.specs.Modes.{mode}
use Rattle.iso_plan.specs.RowView.{tree_of}
use Rattle.iso_plan.specs.declared.lock.Lock.{Lock}
use Rattle.iso_tap.proofs.PrinterLemmas.{prints_as, prints_cut, prints_stopped, prints_then}
use Rattle.iso_html.proofs.mode.mode.Goals as goal

pub returns-in_err-bytes : goal.returns-in_err-bytes
returns-in_err-bytes g c =
    let tree = tree_of c.args.plan.now in
    let n = c.args.node in
    prints_stopped (codes "</p>\n") _ c.from_residual.ensures.0
    (prints_cut (flat_map (lock_text tree) (locks tree n)) _ _ (prints_cut (mode_word (mode tree c.args.plan.now.settings n)) _ _ c.in_err-bytes.ensures))

pub returns-in_err-bytes-2 : goal.returns-in_err-bytes-2
returns-in_err-bytes-2 g c =
    let tree = tree_of c.args.plan.now in
    let n = c.args.node in
    let word = c.as_bytes.ensures.value ∙ c.mode_word-word.ensures ∙ ap mode_word c.mode.ensures in
    prints_stopped (codes "</p>\n") _ c.from_residual-in_err-bytes-2.ensures.0
    (prints_cut (flat_map (lock_text tree) (locks tree n)) _ _ (prints_then _ c.in_ok-bytes.ensures (prints_as c.in_err-bytes-2.ensures _ word)))

pub returns-in_err-all_locks : goal.returns-in_err-all_locks
returns-in_err-all_locks g c =
    let tree = tree_of c.args.plan.now in
    let word = c.as_bytes.ensures.value ∙ c.mode_word-word.ensures ∙ ap mode_word c.mode.ensures in
    let taken = ap (λ (ls : List Lock). flat_map (lock_text tree) ls) c.locks-locks.ensures.locks in
    prints_stopped (codes "</p>\n") _ c.from_residual-in_err-all_locks.ensures.0
    (prints_then _ (prints_then (Ok tt) c.in_ok-bytes.ensures (prints_as {r = Ok tt} c.in_ok-bytes-2.ensures _ word)) (prints_as c.in_err-all_locks.ensures _ taken))

pub returns : goal.returns
returns g c =
    let tree = tree_of c.args.plan.now in
    let word = c.as_bytes.ensures.value ∙ c.mode_word-word.ensures ∙ ap mode_word c.mode.ensures in
    let taken = ap (λ (ls : List Lock). flat_map (lock_text tree) ls) c.locks-locks.ensures.locks in
    prints_then _ (prints_then (Ok tt) (prints_then (Ok tt) c.in_ok-bytes.ensures (prints_as {r = Ok tt} c.in_ok-bytes-2.ensures _ word))
    (prints_as {r = Ok tt} c.in_ok-all_locks.ensures _ taken)) c.bytes-3.ensures
