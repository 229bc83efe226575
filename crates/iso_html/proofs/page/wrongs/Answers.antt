use Rattle.std.proofs.Common.{◌≡◌, ℕ, ◌+◌, Ok, Err, length, map, sym, ap, arith}
use Rattle.std.proofs.lemmas.Result.{err_from_is_err_and}
use Rattle.iso_failures.proofs.TextLemmas.{lines_below, lines-next, lines-rest}
use Rattle.iso_failures.specs.Failures.{is_failure}
use Rattle.iso_html.specs.Commands.{commands_of}
use Rattle.iso_html.specs.Quotes.{excerpt_of}
use Rattle.iso_html.specs.Pages.{failure_text}
use Rattle.iso_junit.specs.Runs.{run_of}
use Rattle.iso_tap.proofs.PrinterLemmas.{prints_as, prints_cut, prints_nothing, prints_then}
use Rattle.iso_html.proofs.page.wrongs.Goals as goal

pub nodes-init : goal.nodes-init
nodes-init g c = prints_nothing c.args.printer.now

pub nodes-preserved : goal.nodes-preserved
nodes-preserved g c =
    let r = run_of c.args.run.now in
    prints_as (prints_then (Ok tt) c.nodes.invariant c.in_ok-failure.ensures) _
    (sym (lines-next (failure_text r (map excerpt_of c.args.quotes.now) (commands_of c.args.commands.now)) (is_failure r.outcome) c.nodes.node))

pub returns-in_err-failure : goal.returns-in_err-failure
returns-in_err-failure g c =
    let r = run_of c.args.run.now in
    let n = c.nodes.node in
    let p = err_from_is_err_and c.from_residual.result c.from_residual.ensures.1 in
    let rest = lines-rest (failure_text r (map excerpt_of c.args.quotes.now) (commands_of c.args.commands.now)) (is_failure r.outcome) (n + 1) (length r.tree)
    (omega (arith, c.len-node-end.ensures)) in
    let here = prints_as (prints_then (Err p.0) c.nodes.invariant c.in_err-failure.ensures) _
    (sym (lines-next (failure_text r (map excerpt_of c.args.quotes.now) (commands_of c.args.commands.now)) (is_failure r.outcome) n)) in
    rw p.1 (prints_as (prints_cut rest.rest p.0 p.0 here) _ (sym rest.is))

pub returns : goal.returns
returns g c =
    let r = run_of c.args.run.now in
    let rooted = c.nodes_are_a_tree.ensures.rooted in
    let end : c.nodes.node ≡ length r.tree = omega (arith, c.len-node-end.ensures) in
    prints_as {r = Ok tt} c.nodes.invariant _ (ap (λ (n : ℕ). lines_below (failure_text r (map excerpt_of c.args.quotes.now) (commands_of c.args.commands.now)) (is_failure r.outcome) n) end)
