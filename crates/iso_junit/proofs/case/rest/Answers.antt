use Rattle.std.proofs.Common.{◌≡◌, Bool, List, ℕ, Ok, [], false, ◌&&◌, codes, cond, sym, ap, ◌∙◌}
use Rattle.iso_failures.specs.Nodes.{has_passed}
use Rattle.iso_junit.proofs.SuiteLemmas.{result-same}
use Rattle.iso_junit.specs.Cases.{is_a_test}
use Rattle.iso_junit.specs.Documents.{case_output, is_bare}
use Rattle.iso_junit.specs.Elements.{is_silent, output_text}
use Rattle.iso_junit.specs.Runs.{run_of}
use Rattle.iso_model.specs.declared.outcome.Outcome.{Outcome}
use Rattle.iso_plan.specs.Paths.{row_at}
use Rattle.iso_tap.proofs.PrinterLemmas.{prints_as, prints_cut, prints_stopped, prints_then}
use Rattle.iso_junit.proofs.case.rest.Goals as goal

pub returns-in_err-ended : goal.returns-in_err-ended
returns-in_err-ended g c =
    let r = run_of c.args.run.now in
    let n = c.args.node in
    let such : Outcome → Bool = λ (o : Outcome). has_passed o.verdict && is_silent (row_at r.tree n) o.output in
    let full : is_bare r n ≡ false = sym (ap such c.view-view.ensures) ∙ sym c.is_bare.ensures ∙ c.if-is_bare.false in
    let ended = prints_as c.in_err-ended.ensures _ (result-same c.place-place.ensures c.view-view.ensures) in
    rw full (prints_stopped (codes "    </testcase>\n") _ c.from_residual-in_err-ended.ensures.0 (prints_cut (case_output r n) _ _ (prints_then _ c.in_ok-bytes.ensures ended)))

pub returns-in_err-case_output : goal.returns-in_err-case_output
returns-in_err-case_output g c =
    let r = run_of c.args.run.now in
    let n = c.args.node in
    let such : Outcome → Bool = λ (o : Outcome). has_passed o.verdict && is_silent (row_at r.tree n) o.output in
    let full : is_bare r n ≡ false = sym (ap such c.view-view.ensures) ∙ sym c.is_bare.ensures ∙ c.if-is_bare.false in
    let ended = prints_as {r = Ok tt} c.in_ok-ended.ensures _ (result-same c.place-place.ensures c.view-view.ensures) in
    let text : Outcome → List ℕ = λ (o : Outcome). cond (is_a_test r n) (output_text (codes "      ") (row_at r.tree n) o.output) [] in
    let output = prints_as c.in_err-case_output.ensures (case_output r n) (ap text c.view-view.ensures) in
    rw full (prints_stopped (codes "    </testcase>\n") _ c.from_residual-in_err-case_output.ensures.0 (prints_then _ (prints_then (Ok tt) c.in_ok-bytes.ensures ended) output))

pub returns : goal.returns
returns g c =
    let r = run_of c.args.run.now in
    let n = c.args.node in
    let such : Outcome → Bool = λ (o : Outcome). has_passed o.verdict && is_silent (row_at r.tree n) o.output in
    let full : is_bare r n ≡ false = sym (ap such c.view-view.ensures) ∙ sym c.is_bare.ensures ∙ c.if-is_bare.false in
    let ended = prints_as {r = Ok tt} c.in_ok-ended.ensures _ (result-same c.place-place.ensures c.view-view.ensures) in
    let text : Outcome → List ℕ = λ (o : Outcome). cond (is_a_test r n) (output_text (codes "      ") (row_at r.tree n) o.output) [] in
    let output = prints_as {r = Ok tt} c.in_ok-case_output.ensures (case_output r n) (ap text c.view-view.ensures) in
    rw full (prints_then _ (prints_then (Ok tt) (prints_then (Ok tt) c.in_ok-bytes.ensures ended) output) c.bytes-3.ensures)
