use Rattle.std.proofs.Common.{◌≡◌, ◌<◌, List, ℕ, ◌+◌, Ok, Err, [], ◌++◌, codes, cond, length, sym, ap, ◌∙◌, append_assoc, append-nil, arith}
use Rattle.std.proofs.lemmas.Result.{err_from_is_err_and}
use Rattle.iso_failures.proofs.TextLemmas.{lines_below, lines-next, lines-rest}
use Rattle.iso_junit.specs.Cases.{all_cases, is_suite}
use Rattle.iso_junit.specs.Documents.{document_head, suite_text}
use Rattle.iso_junit.specs.Runs.{run_of}
use Rattle.iso_junit.specs.Tallies.{tally}
use Rattle.iso_tap.proofs.PrinterLemmas.{prints_as, prints_cut, prints_stopped, prints_then}
use Rattle.iso_junit.proofs.junit.document.Goals as goal

pub returns-in_err-head : goal.returns-in_err-head
returns-in_err-head g c =
    let r = run_of c.args.run.now in
    let head = prints_as c.in_err-head.ensures _ (ap document_head c.count_all.ensures) in
    prints_stopped (codes "</testsuites>\n") _ c.from_residual.ensures.0 (prints_cut (lines_below (suite_text r) (is_suite r) (length r.tree)) _ _ head)

pub nodes-init : goal.nodes-init
nodes-init g c =
    let head = prints_as c.in_ok-head.ensures _ (ap document_head c.count_all.ensures) in
    prints_as {r = Ok tt} head _ (sym (append-nil (document_head (tally (run_of c.args.run.now) (all_cases (run_of c.args.run.now))))))

pub nodes-preserved : goal.nodes-preserved
nodes-preserved g c =
    let r = run_of c.args.run.now in
    let head = document_head (tally r (all_cases r)) in
    let n = c.nodes.node in
    let next =
    append_assoc head (lines_below (suite_text r) (is_suite r) n) (cond (is_suite r n) (suite_text r n) [])
    ∙ ap (λ (t : List ℕ). head ++ t) (sym (lines-next (suite_text r) (is_suite r) n)) in
    prints_as (prints_then (Ok tt) c.nodes.invariant c.in_ok-suite.ensures) (head ++ lines_below (suite_text r) (is_suite r) (n + 1)) next

pub returns-in_err-suite : goal.returns-in_err-suite
returns-in_err-suite g c =
    let r = run_of c.args.run.now in
    let head = document_head (tally r (all_cases r)) in
    let n = c.nodes.node in
    let next =
    append_assoc head (lines_below (suite_text r) (is_suite r) n) (cond (is_suite r n) (suite_text r n) [])
    ∙ ap (λ (t : List ℕ). head ++ t) (sym (lines-next (suite_text r) (is_suite r) n)) in
    let p = err_from_is_err_and c.from_residual-in_err-suite.result c.from_residual-in_err-suite.ensures.1 in
    let rest = lines-rest (suite_text r) (is_suite r) (n + 1) (length r.tree) (omega (arith, c.len-node-end.ensures)) in
    let here = prints_as (prints_then (Err p.0) c.nodes.invariant c.in_err-suite.ensures) (head ++ lines_below (suite_text r) (is_suite r) (n + 1)) next in
    let all : head ++ lines_below (suite_text r) (is_suite r) (n + 1) ++ rest.rest ≡ head ++ lines_below (suite_text r) (is_suite r) (length r.tree) =
    append_assoc head (lines_below (suite_text r) (is_suite r) (n + 1)) rest.rest ∙ ap (λ (t : List ℕ). head ++ t) (sym rest.is) in
    rw p.1 (prints_cut (codes "</testsuites>\n") _ p.0 (prints_as (prints_cut rest.rest p.0 p.0 here) _ all))

pub returns : goal.returns
returns g c =
    let r = run_of c.args.run.now in
    let head = document_head (tally r (all_cases r)) in
    let rooted : 0 < length r.tree = c.nodes_are_a_tree.ensures.rooted in
    let end : c.nodes.node ≡ length r.tree = omega (arith, c.len-node-end.ensures) in
    let all = prints_as {r = Ok tt} c.nodes.invariant (head ++ lines_below (suite_text r) (is_suite r) (length r.tree)) (ap (λ (n : ℕ). head ++ lines_below (suite_text r) (is_suite r) n) end) in
    prints_then _ all c.bytes.ensures
