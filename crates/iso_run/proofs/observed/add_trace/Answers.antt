use Rattle.std.proofs.Common.{List, subst}
use Rattle.iso_critical.specs.Critical.{critical, run_of}
use Rattle.iso_critical.specs.declared.body.Body.{Body}
use Rattle.iso_plan.specs.RowView.{tree_of}
use Rattle.iso_tap.specs.Sinks.{Wrote}
use Rattle.iso_trace.specs.TraceText.{trace_text}
use Rattle.iso_waits.specs.declared.wait.NodeWait.{NodeWait}
use Rattle.iso_run.proofs.observed.add_trace.Goals as goal

pub returns-in-Ok : goal.returns-in-Ok
returns-in-Ok c =
    let run = c.args.run.now in
    let text = trace_text (tree_of run.plan.now) run.times.now run.results.now run.started in
    let wrote =
    subst (λ (bodies : List Body). Wrote c.args.sink.now c.write_trace.new.sink (text c.args.waits.now bodies)) c.in_ok-critical.ensures c.in-Ok.ensures.wrote in
    subst (λ (waits : List NodeWait). Wrote c.args.sink.now c.write_trace.new.sink (text waits (critical (run_of run.plan.now run.times.now waits))))
    c.requires wrote
