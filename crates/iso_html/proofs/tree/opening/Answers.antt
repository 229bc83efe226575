use Rattle.std.proofs.Common.{Ok, ap}
use Rattle.iso_html.proofs.TreeLemmas.{name-same}
use Rattle.iso_html.specs.Modes.{mode_text}
use Rattle.iso_html.specs.Nodes.{message_text, place_text, printed_text, time_text}
use Rattle.iso_junit.specs.Runs.{place, run_of, time}
use Rattle.iso_model.specs.declared.outcome.Outcome.{Outcome}
use Rattle.iso_plan.specs.PathTexts.{path_text}
use Rattle.iso_tap.proofs.PrinterLemmas.{prints_as, prints_cut, prints_stopped, prints_then}
use Rattle.iso_html.proofs.tree.opening.Goals as goal

pub returns-in_err-name : goal.returns-in_err-name
returns-in_err-name g c =
    let r = run_of c.args.run.now in
    let n = c.args.node in
    let s = c.args.run.now.plan.now.settings in
    prints_stopped (printed_text (r.outcome n).output) _ c.from_residual.ensures.0
    (prints_cut (message_text (r.outcome n).verdict) _ _
    (prints_cut (mode_text r.tree s n) _ _ (prints_cut (place_text (path_text r.tree n) (place r n)) _ _
    (prints_cut (time_text (time r n)) _ _ (prints_as c.in_err-name.ensures _ (name-same n c.is_ok-ok.ensures c.view-view.ensures c.title.ensures))))))

pub returns-in_err-seconds : goal.returns-in_err-seconds
returns-in_err-seconds g c =
    let r = run_of c.args.run.now in
    let n = c.args.node in
    let s = c.args.run.now.plan.now.settings in
    prints_stopped (printed_text (r.outcome n).output) _ c.from_residual-in_err-seconds.ensures.0
    (prints_cut (message_text (r.outcome n).verdict) _ _
    (prints_cut (mode_text r.tree s n) _ _ (prints_cut (place_text (path_text r.tree n) (place r n)) _ _
    (prints_then _ (prints_as {r = Ok tt} c.in_ok-name.ensures _ (name-same n c.is_ok-ok.ensures c.view-view.ensures c.title.ensures))
    (prints_as c.in_err-seconds.ensures _ (ap time_text c.time.ensures))))))

pub returns-in_err-stands : goal.returns-in_err-stands
returns-in_err-stands g c =
    let r = run_of c.args.run.now in
    let n = c.args.node in
    let s = c.args.run.now.plan.now.settings in
    prints_stopped (printed_text (r.outcome n).output) _ c.from_residual-in_err-stands.ensures.0
    (prints_cut (message_text (r.outcome n).verdict) _ _
    (prints_cut (mode_text r.tree s n) _ _ (prints_then _
    (prints_then (Ok tt) (prints_as {r = Ok tt} c.in_ok-name.ensures _ (name-same n c.is_ok-ok.ensures c.view-view.ensures c.title.ensures))
    (prints_as {r = Ok tt} c.in_ok-seconds.ensures _ (ap time_text c.time.ensures))) (prints_as c.in_err-stands.ensures _ (ap (place_text (path_text r.tree n)) c.place-at.ensures)))))

pub returns-in_err-mode : goal.returns-in_err-mode
returns-in_err-mode g c =
    let r = run_of c.args.run.now in
    let n = c.args.node in
    prints_stopped (printed_text (r.outcome n).output) _ c.from_residual-in_err-mode.ensures.0
    (prints_cut (message_text (r.outcome n).verdict) _ _
    (prints_then _ (prints_then (Ok tt) (prints_then (Ok tt) (prints_as {r = Ok tt} c.in_ok-name.ensures _ (name-same n c.is_ok-ok.ensures c.view-view.ensures c.title.ensures))
    (prints_as {r = Ok tt} c.in_ok-seconds.ensures _ (ap time_text c.time.ensures)))
    (prints_as {r = Ok tt} c.in_ok-stands.ensures _ (ap (place_text (path_text r.tree n)) c.place-at.ensures))) c.in_err-mode.ensures))

pub returns-in_err-message : goal.returns-in_err-message
returns-in_err-message g c =
    let r = run_of c.args.run.now in
    let n = c.args.node in
    prints_stopped (printed_text (r.outcome n).output) _ c.from_residual-in_err-message.ensures.0
    (prints_then _ (prints_then (Ok tt) (prints_then (Ok tt)
    (prints_then (Ok tt) (prints_as {r = Ok tt} c.in_ok-name.ensures _ (name-same n c.is_ok-ok.ensures c.view-view.ensures c.title.ensures))
    (prints_as {r = Ok tt} c.in_ok-seconds.ensures _ (ap time_text c.time.ensures)))
    (prints_as {r = Ok tt} c.in_ok-stands.ensures _ (ap (place_text (path_text r.tree n)) c.place-at.ensures))) c.in_ok-mode.ensures)
    (prints_as c.in_err-message.ensures _ (ap (λ (o : Outcome). message_text o.verdict) c.view-view.ensures)))

pub returns : goal.returns
returns g c =
    let r = run_of c.args.run.now in
    let n = c.args.node in
    prints_then _ (prints_then (Ok tt) (prints_then (Ok tt)
    (prints_then (Ok tt) (prints_then (Ok tt) (prints_as {r = Ok tt} c.in_ok-name.ensures _ (name-same n c.is_ok-ok.ensures c.view-view.ensures c.title.ensures))
    (prints_as {r = Ok tt} c.in_ok-seconds.ensures _ (ap time_text c.time.ensures)))
    (prints_as {r = Ok tt} c.in_ok-stands.ensures _ (ap (place_text (path_text r.tree n)) c.place-at.ensures))) c.in_ok-mode.ensures)
    (prints_as {r = Ok tt} c.in_ok-message.ensures _ (ap (λ (o : Outcome). message_text o.verdict) c.view-view.ensures)))
    (prints_as c.printed.ensures _ (ap (λ (o : Outcome). printed_text o.output) c.view-view.ensures))
