use Rattle.std.proofs.Common.{Bool, Ok, [], codes, cond, flat_map, sym, ap, ◌∙◌}
use Rattle.iso_junit.specs.Cases.{cases}
use Rattle.iso_junit.specs.Documents.{case_text, suite_head, suite_text}
use Rattle.iso_junit.specs.Elements.{output_text}
use Rattle.iso_junit.specs.Runs.{run_of}
use Rattle.iso_model.specs.declared.outcome.Outcome.{Outcome}
use Rattle.iso_plan.specs.Paths.{row_at}
use Rattle.iso_plan.specs.PathTexts.{path_text}
use Rattle.iso_tap.proofs.PrinterLemmas.{prints_as, prints_cut, prints_stopped, prints_then}
use Rattle.iso_junit.proofs.suite.suite.Goals as goal

pub returns-in_err-head : goal.returns-in_err-head
returns-in_err-head g c =
    let r = run_of c.args.run.now in
    let n = c.args.node in
    let whole = ap (λ (b : Bool). cond b (suite_text r n) []) (sym c.is_suite.ensures ∙ c.if-not-is_suite.false) in
    let head = prints_as c.in_err-head.ensures _ (ap (suite_head (path_text r.tree n)) c.count-counts.ensures) in
    let output = output_text (codes "    ") (row_at r.tree n) (r.outcome n).output in
    prints_as
    (prints_stopped (codes "  </testsuite>\n") _ c.from_residual.ensures.0 (prints_cut output _ _ (prints_cut (flat_map (case_text r n) (cases r n)) _ _ head)))
    _ (sym whole)

pub returns-in_err-cases : goal.returns-in_err-cases
returns-in_err-cases g c =
    let r = run_of c.args.run.now in
    let n = c.args.node in
    let whole = ap (λ (b : Bool). cond b (suite_text r n) []) (sym c.is_suite.ensures ∙ c.if-not-is_suite.false) in
    let head = prints_as c.in_ok-head.ensures _ (ap (suite_head (path_text r.tree n)) c.count-counts.ensures) in
    let output = output_text (codes "    ") (row_at r.tree n) (r.outcome n).output in
    prints_as
    (prints_stopped (codes "  </testsuite>\n") _ c.from_residual-in_err-cases.ensures.0 (prints_cut output _ _ (prints_then _ head c.in_err-cases.ensures)))
    _ (sym whole)

pub returns-in_err-output : goal.returns-in_err-output
returns-in_err-output g c =
    let r = run_of c.args.run.now in
    let n = c.args.node in
    let whole = ap (λ (b : Bool). cond b (suite_text r n) []) (sym c.is_suite.ensures ∙ c.if-not-is_suite.false) in
    let head = prints_as c.in_ok-head.ensures _ (ap (suite_head (path_text r.tree n)) c.count-counts.ensures) in
    let output = prints_as c.in_err-output.ensures _ (ap (λ (o : Outcome). output_text (codes "    ") (row_at r.tree n) o.output) c.view.ensures) in
    prints_as
    (prints_stopped (codes "  </testsuite>\n") _ c.from_residual-in_err-output.ensures.0 (prints_then _ (prints_then (Ok tt) head c.in_ok-cases.ensures) output))
    _ (sym whole)

pub returns : goal.returns
returns g c =
    let r = run_of c.args.run.now in
    let n = c.args.node in
    let whole = ap (λ (b : Bool). cond b (suite_text r n) []) (sym c.is_suite.ensures ∙ c.if-not-is_suite.false) in
    let head = prints_as c.in_ok-head.ensures _ (ap (suite_head (path_text r.tree n)) c.count-counts.ensures) in
    let output = prints_as c.in_ok-output.ensures _ (ap (λ (o : Outcome). output_text (codes "    ") (row_at r.tree n) o.output) c.view.ensures) in
    prints_as (prints_then _ (prints_then (Ok tt) (prints_then (Ok tt) head c.in_ok-cases.ensures) output) c.bytes.ensures) _ (sym whole)
