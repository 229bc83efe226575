-- The events of a trace, one after another.
use Rattle.std.proofs.Common.{◌≡◌, ◌<◌, ℕ, suc, ◌+◌, ◌-◌, List, ◌++◌, Option, drop, get_or, length, ap, sym, ◌∙◌, arith}
use Rattle.iso_critical.specs.declared.body.Body.{Body}
use Rattle.iso_lifecycle.specs.ResultViews.{ResultsView}
use Rattle.iso_plan.specs.Tree.{Row}
use Rattle.iso_tap.proofs.PrinterLemmas.{drop_next}
use Rattle.iso_times.specs.declared.times.BodyTime.{BodyTime}
use Rattle.iso_trace.specs.TraceText.{body_events, node_events, thread_event, thread_events, wait_event, wait_events}
use Rattle.iso_waits.specs.declared.wait.NodeWait.{NodeWait}

pub threads-next : (len n : ℕ) → n < len → thread_events (len - n) n ≡ thread_event n ++ thread_events (len - (n + 1)) (n + 1)
threads-next len n h =
    let e : len - n ≡ suc (len - (n + 1)) = omega arith in
    let f : n + 1 ≡ suc n = omega arith in
    rw e (ap (λ (m : ℕ). thread_event n ++ thread_events (len - (n + 1)) m) (sym f))

pub bodies-next : (tree : List Row) (bodies : List (Option BodyTime)) (results : ResultsView) (critical : List Body) (len n : ℕ) → n < len
    → body_events tree bodies results critical (len - n) n ≡ node_events tree bodies results critical n ++ body_events tree bodies results critical (len - (n + 1)) (n + 1)
bodies-next tree bodies results critical len n h =
    let e : len - n ≡ suc (len - (n + 1)) = omega arith in
    let f : n + 1 ≡ suc n = omega arith in
    rw e (ap (λ (m : ℕ). node_events tree bodies results critical n ++ body_events tree bodies results critical (len - (n + 1)) m) (sym f))

pub waits-next : (tree : List Row) (ws : List NodeWait) (i : ℕ) (d : NodeWait) → i < length ws
    → wait_events tree i (drop i ws) ≡ wait_event tree i (get_or ws i d) ++ wait_events tree (i + 1) (drop (i + 1) ws)
waits-next tree ws i d h =
    let f : suc i ≡ i + 1 = omega arith in
    ap (wait_events tree i) (drop_next ws i d h) ∙ ap (λ (m : ℕ). wait_event tree i (get_or ws i d) ++ wait_events tree m (drop (i + 1) ws)) f
